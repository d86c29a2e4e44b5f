use Rattle.std.proofs.Common.{refl}
use Rattle.policy_request.proofs.Chains.{one_name, one_byte, last_name}
use Rattle.policy_request.proofs.language.chain_names.Goals as goal

pub loop-rest-preserved-in_ok-push : goal.loop-rest-preserved-in_ok-push
loop-rest-preserved-in_ok-push c =
    one_name c.loop-rest.names.items c.push.new.self.items c.first_bytes.result c.loop-rest.from.now c.loop-rest.rest.now c.args.word.now c.loop-rest.begun _
    c.in-len1-up.len_at_least refl c.if-byte-eq44.true c.first_bytes.ensures c.in_ok-push.ensures.items c.loop-rest.invariant

pub loop-rest-preserved : goal.loop-rest-preserved
loop-rest-preserved c =
    one_byte c.loop-rest.names.items c.loop-rest.from.now c.loop-rest.rest.now c.args.word.now c.loop-rest.begun _
    c.in-len1-up.len_at_least refl c.if-byte-eq44.false c.loop-rest.invariant

pub returns : goal.returns
returns c =
    last_name c.loop-rest.names.items c.push-2.new.self.items _ c.loop-rest.from.now c.loop-rest.rest.now c.args.word.now c.loop-rest.begun
    c.in_default.len_below refl c.in_ok-push-2.ensures.items c.loop-rest.invariant
