use Rattle.std.proofs.Common.{◌≡◌, length}
use Rattle.std.specs.List.{list_any}
use Rattle.ios_meaning.specs.Answers.{answers_at}
use Rattle.ios_meaning.proofs.community_answers.some_answers.Given as goal

abbrev pub decreases-loop-rest : goal.decreases-loop-rest
decreases-loop-rest l = length l.rest

abbrev pub invariant-loop-rest : goal.invariant-loop-rest
invariant-loop-rest l = list_any (answers_at l.found) l.rest ≡ list_any (answers_at l.found) l.lists
