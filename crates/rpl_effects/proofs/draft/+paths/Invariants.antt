use Rattle.std.proofs.Common.{◌≡◌, ◌+◌, ◌*◌, reverse, length}
use Rattle.rpl_effects.specs.Pieces.{leaves, leaves_at, prepends_of}
use Rattle.rpl_effects.specs.Changes.{all_done, before}
use Rattle.rpl_effects.proofs.draft.+paths.Given as goal

abbrev pub decreases-push_all : goal.decreases-push_all
decreases-push_all g l = 3 * length l.older.now + 2

abbrev pub decreases-push_effect : goal.decreases-push_effect
decreases-push_effect g l = 3 * length l.older.now

abbrev pub decreases-push_all-loop-rest : goal.decreases-push_all-loop-rest
decreases-push_all-loop-rest g l = length l.rest

abbrev pub invariant-push_all-loop-rest : goal.invariant-push_all-loop-rest
invariant-push_all-loop-rest g l =
    all_done before (leaves (leaves_at prepends_of l.older) l.rest) (reverse l.path.items) ≡ all_done before (leaves (leaves_at prepends_of l.older) l.pieces) (reverse l.fn.path.items)
