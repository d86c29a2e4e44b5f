use Rattle.std.proofs.Common.{◌≡◌, length}
use Rattle.ios_meaning.specs.Deletions.{reaches, first_answer}
use Rattle.ios_meaning.proofs.deletion_index.first_answer.Given as goal

abbrev pub decreases-loop-rest : goal.decreases-loop-rest
decreases-loop-rest l = length l.rest

abbrev pub invariant-loop-rest : goal.invariant-loop-rest
invariant-loop-rest l = first_answer (reaches l.community) l.rest ≡ first_answer (reaches l.community) l.entries
