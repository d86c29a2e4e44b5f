use Rattle.std.proofs.Common.{◌≡◌, length}
use Rattle.community_sets.specs.Tests.{list_answers}
use Rattle.community_sets.proofs.list.first_match.Given as goal

abbrev pub invariant-loop-rest : goal.invariant-loop-rest
invariant-loop-rest l = list_answers l.rest l.communities ≡ list_answers l.entries l.communities

abbrev pub decreases-loop-rest : goal.decreases-loop-rest
decreases-loop-rest l = length l.rest
