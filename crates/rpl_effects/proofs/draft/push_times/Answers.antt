use Rattle.std.proofs.Common.{reverse, arith}
use Rattle.rpl_effects.specs.Changes.{repeated_before}
use Rattle.rpl_effects.proofs.DraftLaws.{one_pushed}
use Rattle.rpl_effects.proofs.draft.push_times.Goals as goal

pub loop-left-preserved : goal.loop-left-preserved
loop-left-preserved c =
    one_pushed c.args.number c.loop-left.left c.loop-left.path.items c.push.new.self.items (repeated_before c.args.number c.args.count (reverse c.args.path.now.items)) (omega (arith, c.loop-left-test.true)) c.in_ok-push.ensures.items c.loop-left.invariant
