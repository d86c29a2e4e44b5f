use Rattle.std.proofs.Common.{◌≡◌, ◌++◌, length}
use Rattle.std.specs.Prelude.{map, filter, not}
use Rattle.ios_meaning.specs.Drafts.{answers_alone}
use Rattle.ios_meaning.proofs.deletions.without.Given as goal

abbrev pub decreases-loop-rest : goal.decreases-loop-rest
decreases-loop-rest l = length l.rest

abbrev pub invariant-loop-rest : goal.invariant-loop-rest
invariant-loop-rest l = l.kept.items ++ filter (λ c. not (answers_alone (map (λ e. e.now) l.index.entries.now) c)) l.rest ≡ filter (λ c. not (answers_alone (map (λ e. e.now) l.index.entries.now) c)) l.communities
