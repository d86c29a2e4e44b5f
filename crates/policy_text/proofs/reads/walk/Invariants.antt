use Rattle.std.proofs.Common.{◌≡◌, [], length}
use Rattle.policy_text.specs.Phrases.{texts, each_onto}
use Rattle.policy_text.proofs.reads.walk.Given as goal

abbrev pub invariant-loop-rest : goal.invariant-loop-rest
invariant-loop-rest g l = each_onto g.R.Reads.find l.found (texts l.rest) ≡ each_onto g.R.Reads.find [] (texts l.words)

abbrev pub decreases-loop-rest : goal.decreases-loop-rest
decreases-loop-rest g l = length l.rest
