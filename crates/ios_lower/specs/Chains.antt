-- Nodes that test one atom after the other, and nodes that make one change after the other.
use Rattle.std.specs.Prelude.{◌≡◌, ◌<◌, ℕ, Bool, true, false, List, length}
use Rattle.std.specs.List.{list_all}
use Rattle.route_types.specs.Change.{changed_by}
use Rattle.route_types.specs.Route.{RouteParts}
use Rattle.route_types.specs.declared.change.Change.{Change}
use Rattle.path_patterns.specs.Items.{SomeOf}
use Rattle.core_nodes.specs.Atoms.{atom_holds}
use Rattle.core_nodes.specs.Made.{Keeps}
use Rattle.core_nodes.specs.Outcome.{outcome_at}
use Rattle.core_nodes.specs.declared.atom.Atom.{Atom}
use Rattle.core_nodes.specs.declared.node.NodeKind.{NodeKind}
use Rattle.core_nodes.specs.declared.node.NodeKind.TheVariants.{Test, Do}
use Rattle.policy_core.specs.Apart.{Touched, touched_by, is_apart, apart_at}
use Rattle.policy_core.specs.Settled.{IsUntested, IsSettled}
use Rattle.ios_lower.specs.Grows.{Grows}

-- the node tests one of the atoms
abbrev pub IsTestOf : List Atom → NodeKind → Type 0
IsTestOf atoms (Test a then other) = SomeOf (λ b. a ≡ b) atoms
IsTestOf atoms _ = ⊥

-- the node makes one of the changes
abbrev pub IsActOf : List Change → NodeKind → Type 0
IsActOf changes (Do c next) = SomeOf (λ d. c ≡ d) changes
IsActOf changes _ = ⊥

-- where all atoms hold the one, and else the other
abbrev pub if_all : {X : Type 0} → List Atom → RouteParts → X → X → X
if_all atoms r one other = elim (list_all (λ a. atom_holds a r) atoms) [ true ↦ one | false ↦ other ]

-- none of the atoms asks for what was touched
abbrev pub are_apart : List Atom → Touched → Bool
are_apart atoms t = list_all (λ a. is_apart a t) atoms

-- what passes the test passes it behind each of the changes
abbrev pub AreKept : (Touched → Bool) → List Change → Type 0
AreKept test changes = (c : Change) → SomeOf (λ d. c ≡ d) changes → (t : Touched) → test t ≡ true → test (touched_by c t) ≡ true

-- a node behind which those of the atoms are tested that are not left, in a graph that was smaller before
pub record Tests (old now : List NodeKind) (atoms left : List Atom) (then other n : ℕ) : Type 0 where
  pub within : n < length now
  pub grows : Grows (IsTestOf atoms) old now
  pub keeps : Keeps old now
  pub answers : (r : RouteParts) → if_all left r (outcome_at now n r) (outcome_at old other r) ≡ if_all atoms r (outcome_at old then r) (outcome_at old other r)
  pub settled : IsSettled old then → IsSettled old other → IsSettled now n
  pub apart : (t : Touched) → are_apart atoms t ≡ true → apart_at old then t ≡ true → apart_at old other t ≡ true → apart_at now n t ≡ true
  pub among : (a : Atom) → SomeOf (λ b. a ≡ b) left → SomeOf (λ b. a ≡ b) atoms

-- a node behind which those of the changes are made that are not left
pub record Acts (old now : List NodeKind) (changes left : List Change) (next n : ℕ) : Type 0 where
  pub within : n < length now
  pub grows : Grows (IsActOf changes) old now
  pub keeps : Keeps old now
  pub answers : (r : RouteParts) → outcome_at now n (changed_by left r) ≡ outcome_at old next (changed_by changes r)
  pub untested : IsUntested old next → IsUntested now n
  pub settled : IsUntested old next → IsSettled old next → IsSettled now n
  -- where no change makes a test fail, and nothing that passes it is asked for behind the changes, nothing that passes it is asked for at all
  pub apart : (test : Touched → Bool) → AreKept test changes → ((t : Touched) → test t ≡ true → apart_at old next t ≡ true) → (t : Touched) → test t ≡ true → apart_at now n t ≡ true
  pub among : (c : Change) → SomeOf (λ d. c ≡ d) left → SomeOf (λ d. c ≡ d) changes
