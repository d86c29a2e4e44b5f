use Rattle.std.proofs.Common.{◌+◌, ◌*◌, ℕ, Bool, List, Option, length}
use Rattle.rpl_effects.specs.Pieces.{leaves_at, steps_of}
use Rattle.rpl_effects.specs.Answers.{Tells, Agrees, IsVisiting}
use Rattle.rpl_effects.proofs.steps.+visits.Given as goal

abbrev pub decreases-visit_all : goal.decreases-visit_all
decreases-visit_all g l = 2 * length l.older.now + 1

abbrev pub decreases-visit : goal.decreases-visit
decreases-visit g l = 2 * length l.older.now

abbrev pub decreases-visit_all-loop-rest : goal.decreases-visit_all-loop-rest
decreases-visit_all-loop-rest g l = length l.rest

abbrev pub invariant-visit_all-loop-rest : goal.invariant-visit_all-loop-rest
invariant-visit_all-loop-rest g l =
    (answer : g.row.S.Denot → Option Bool) (at : ℕ → List g.row.S.Denot) → Agrees at l.older → Tells answer at l.fn.seen l.fn.found.items
    → IsVisiting answer at (leaves_at steps_of l.older) l.pieces l.rest l.fn.found.items l.found.items l.seen
