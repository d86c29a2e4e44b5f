-- Where no path test follows a prepend, and no community test a change of the communities: tests of single values aside,
-- no test from a node on asks for what was changed on the way to it.
use Rattle.std.specs.Prelude.{◌≡◌, ℕ, Bool, true, false, ◌&&◌, not, List}
use Rattle.route_types.specs.declared.change.Change.{Change}
use Rattle.route_types.specs.declared.change.Change.TheVariants.{NextHop as NextHopTo, Prepend, Origin as OriginTo, LocalPreference as PreferenceTo, Med as MedTo, Weight as WeightTo, Communities as CommunitiesBy}
use Rattle.core_nodes.specs.declared.atom.Atom.{Atom}
use Rattle.core_nodes.specs.declared.atom.Atom.TheVariants.{Prefix, NextHop, Path, Community as Communities, MedOneOf, MedAtLeast, MedAtMost, LocalPreference, Origin as OriginIs, NoCommunity}
use Rattle.core_nodes.specs.declared.node.NodeKind.{NodeKind}
use Rattle.core_nodes.specs.declared.node.NodeKind.TheVariants.{Test, Do, Stop}
use Rattle.policy_core.specs.Fold.{fold_at}

-- whether numbers were put before the path, and whether the communities were changed
pub record Touched : Type 0 where
  pub path : Bool
  pub communities : Bool

abbrev pub untouched : Touched
untouched = record { path = false; communities = false }

-- what was touched when one more change is made
abbrev pub touched_by : Change → Touched → Touched
touched_by (NextHopTo h) t = t
touched_by (Prepend n) t = record { path = true; communities = t.communities }
touched_by (OriginTo o) t = t
touched_by (PreferenceTo n) t = t
touched_by (MedTo n) t = t
touched_by (WeightTo n) t = t
touched_by (CommunitiesBy c) t = record { path = t.path; communities = true }

-- the test doesn't ask for what was touched
abbrev pub is_apart : Atom → Touched → Bool
is_apart (Prefix lists) t = true
is_apart (NextHop lists) t = true
is_apart (Path lists) t = not t.path
is_apart (Communities lists) t = not t.communities
is_apart (MedOneOf numbers) t = true
is_apart (MedAtLeast n) t = true
is_apart (MedAtMost n) t = true
is_apart (LocalPreference n) t = true
is_apart (OriginIs o) t = true
is_apart NoCommunity t = not t.communities

-- the same of a node, from that of its children
abbrev pub apart_by : (ℕ → Touched → Bool) → NodeKind → Touched → Bool
apart_by child (Test a met unmet) t = is_apart a t && (child met t && child unmet t)
apart_by child (Do c next) t = child next (touched_by c t)
apart_by child (Stop accept) t = true

-- of no node
abbrev pub no_way : Touched → Bool
no_way t = true

-- on no way from the node on a test asks for what was touched
abbrev pub apart_at : List NodeKind → ℕ → Touched → Bool
apart_at nodes p = fold_at no_way apart_by nodes p
