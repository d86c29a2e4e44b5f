use Rattle.std.proofs.Common.{◌≡◌, length}
use Rattle.std.specs.Prelude.{map}
use Rattle.ios_meaning.specs.Meaning.{continuation_of}
use Rattle.ios_graph.proofs.continues.continuation_of.Given as goal

abbrev pub decreases-loop-rest : goal.decreases-loop-rest
decreases-loop-rest l = length l.rest

abbrev pub invariant-loop-rest : goal.invariant-loop-rest
invariant-loop-rest l = continuation_of (map (λ m. m.now) l.rest) ≡ continuation_of (map (λ m. m.now) l.lines)
