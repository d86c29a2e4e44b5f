use Rattle.std.proofs.Common.{◌≡◌, length}
use Rattle.std.specs.Prelude.{map, filter}
use Rattle.ios_meaning.specs.Drafts.{removes_by, draft_by_lines, deletes_as}
use Rattle.ios_meaning.proofs.draft.with_lines.Given as goal

abbrev pub decreases-loop-rest : goal.decreases-loop-rest
decreases-loop-rest l = length l.rest

abbrev pub invariant-loop-rest : goal.invariant-loop-rest
invariant-loop-rest l = draft_by_lines (removes_by l.lists) (filter (deletes_as l.deleting) (map (λ m. m.now) l.rest)) l.draft ≡ draft_by_lines (removes_by l.lists) (filter (deletes_as l.deleting) (map (λ m. m.now) l.lines)) l.fn.draft
