use Rattle.std.proofs.Common.{◌≡◌, length}
use Rattle.std.specs.Prelude.{map}
use Rattle.ios_meaning.specs.Drafts.{entry_of, removes_by, draft_by_entries}
use Rattle.ios_meaning.proofs.draft.with_entries.Given as goal

abbrev pub decreases-loop-rest : goal.decreases-loop-rest
decreases-loop-rest l = length l.rest

abbrev pub invariant-loop-rest : goal.invariant-loop-rest
invariant-loop-rest l = draft_by_entries (removes_by l.lists) (map entry_of l.rest) l.draft ≡ draft_by_entries (removes_by l.lists) (map entry_of l.entries) l.fn.draft
