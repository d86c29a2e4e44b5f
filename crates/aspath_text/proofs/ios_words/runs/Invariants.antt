use Rattle.std.proofs.Common.{◌≡◌, length}
use Rattle.aspath_text.specs.IosRead.{runs_after}
use Rattle.aspath_text.proofs.ios_words.runs.Given as goal

abbrev pub invariant-loop-rest : goal.invariant-loop-rest
invariant-loop-rest l = runs_after l.found l.rest ≡ runs_after 0 l.text

abbrev pub decreases-loop-rest : goal.decreases-loop-rest
decreases-loop-rest l = length l.rest
