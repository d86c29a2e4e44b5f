use Rattle.std.proofs.Common.{refl, sym, ◌∙◌}
use Rattle.policy_text.specs.NameSets.{has_name}
use Rattle.rpl_reader.proofs.Repeats.{no_names, none_seen, stops, goes}
use Rattle.rpl_reader.proofs.causes.repeats.Goals as goal

pub loop-rest-init : goal.loop-rest-init
loop-rest-init c = none_seen (λ q. has_name c.new-seen.result q 0 0) (λ q. no_names c.new-seen.result c.new-seen.ensures.empty q 0 0) c.args.names.now

pub returns-then-has_name : goal.returns-then-has_name
returns-then-has_name c = stops (λ q. has_name c.loop-rest.seen q 0 0) c.loop-rest.rest.now c.args.names.now c.first-item.result c.as_slice-name.result.now c.in-len1-up.len_at_least c.first-item.is c.as_slice-name.ensures
    (sym c.has_name.ensures ∙ c.if-has_name.true) c.loop-rest.invariant

pub loop-rest-preserved : goal.loop-rest-preserved
loop-rest-preserved c = goes (λ q. has_name c.loop-rest.seen q 0 0) (λ q. has_name c.add_name.new.names q 0 0) c.as_slice-name.result.now (λ q. c.in_ok-add_name.ensures q 0 0) (sym c.has_name.ensures ∙ c.if-has_name.false)
    c.loop-rest.rest.now c.args.names.now c.first-item.result _ c.in-len1-up.len_at_least c.first-item.is refl c.as_slice-name.ensures c.loop-rest.invariant
