-- What is said of all tests and changes from a node on, and where that is kept when the node is settled: where no path
-- test follows a prepend, and no community test a change of the communities.
use Rattle.std.specs.Prelude.{◌≡◌, ℕ, Bool, true, false, List, [], None}
use Rattle.route_types.specs.Community.{RectParts}
use Rattle.route_types.specs.declared.change.Change.{Change}
use Rattle.pending_changes.specs.Pending.{change_says, PendingSays}
use Rattle.pending_changes.specs.declared.pending.Pending.{Pending}
use Rattle.core_nodes.specs.declared.atom.Atom.{Atom}
use Rattle.core_nodes.specs.declared.node.NodeKind.{NodeKind}
use Rattle.policy_core.specs.Apart.{Touched, apart_at}
use Rattle.policy_core.specs.Guards.{said_at}
use Rattle.settled_graph.specs.declared.key.Key.{Key}

-- ---- what is said

-- the tests from a node on pass, the values that are set, and the rectangles that are removed
abbrev pub says_at : (Atom → Bool) → (Change → Bool) → (RectParts → Bool) → List NodeKind → ℕ → Bool
says_at on_atom on_value on_rect nodes p = said_at on_atom (change_says on_value on_rect) nodes p

-- what is pending is of what was changed
pub record IsOf (t : Touched) (p : Pending) : Type 0 where
  pub path : t.path ≡ false → p.prepended ≡ []
  pub communities : t.communities ≡ false → p.communities ≡ None

-- what is pending passes, and what comes from the node on
pub record MaySay (on_atom : Atom → Bool) (on_value : Change → Bool) (on_rect : RectParts → Bool) (nodes : List NodeKind) (k : Key) : Type 0 where
  pub pending : PendingSays on_value on_rect k.pending
  pub said : says_at on_atom on_value on_rect nodes k.place ≡ true
  pub touched : Touched
  pub of : IsOf touched k.pending
  pub apart : apart_at nodes k.place touched ≡ true
