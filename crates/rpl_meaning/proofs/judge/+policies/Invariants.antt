use Rattle.std.proofs.Common.{◌+◌, ◌*◌, length}
use Rattle.rpl_meaning.specs.Blocks.{word_in}
use Rattle.rpl_meaning.proofs.RunLaws.{IsAlong}
use Rattle.rpl_meaning.proofs.judge.+policies.Given as goal

abbrev pub decreases-run_policy : goal.decreases-run_policy
decreases-run_policy l = 4 * l.levels

abbrev pub decreases-run_body : goal.decreases-run_body
decreases-run_body l = 4 * l.levels + 3

abbrev pub decreases-stepped : goal.decreases-stepped
decreases-stepped l = 4 * l.levels + 2

abbrev pub decreases-applied : goal.decreases-applied
decreases-applied l = 4 * l.levels + 1

abbrev pub decreases-run_body-loop-rest : goal.decreases-run_body-loop-rest
decreases-run_body-loop-rest l = length l.rest

abbrev pub invariant-run_body-loop-rest : goal.invariant-run_body-loop-rest
invariant-run_body-loop-rest l = IsAlong l.world l.fn.known l.known l.levels (word_in l.words.entries) l.body l.rest l.run l.mode l.held
