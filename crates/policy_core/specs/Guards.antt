-- What steps do: the first one whose guard holds on the route gives the outcome.
use Rattle.std.specs.Prelude.{◌≡◌, ℕ, Bool, true, false, ◌&&◌, List, [], ◌∷◌}
use Rattle.std.specs.Bool.{beq}
use Rattle.std.specs.List.{list_all}
use Rattle.route_types.specs.Route.{RouteParts}
use Rattle.route_types.specs.Change.{changed_by}
use Rattle.route_types.specs.declared.route.Outcome.{Outcome}
use Rattle.route_types.specs.declared.route.Outcome.TheVariants.{Reject}
use Rattle.core_nodes.specs.Atoms.{atom_holds}
use Rattle.core_nodes.specs.Outcome.{ended}
use Rattle.core_nodes.specs.declared.atom.Atom.{Atom}
use Rattle.route_types.specs.declared.change.Change.{Change}
use Rattle.core_nodes.specs.declared.node.NodeKind.{NodeKind}
use Rattle.core_nodes.specs.declared.node.NodeKind.TheVariants.{Test, Do, Stop}
use Rattle.policy_core.specs.Fold.{fold_at}
use Rattle.policy_core.specs.declared.step.Literal.{Literal}
use Rattle.policy_core.specs.declared.step.Step.{Step}

-- the test answers what the literal wants
abbrev pub literal_holds : Literal → RouteParts → Bool
literal_holds l r = beq (atom_holds l.atom r) l.wanted

-- all literals of a guard hold on the route
abbrev pub guard_holds : List Literal → RouteParts → Bool
guard_holds guard r = list_all (λ l. literal_holds l r) guard

-- the first step whose guard holds on the route as it arrives changes it, and accepts or rejects it
unfoldable pub outcome_of : List Step → RouteParts → Outcome
outcome_of [] r = Reject
outcome_of (s ∷ ss) r = elim (guard_holds s.guard r) [ true ↦ ended s.accept (changed_by s.actions r) | false ↦ outcome_of ss r ]

-- there is a last step, and its guard is empty
unfoldable pub IsClosed : List Step → Type 0
IsClosed [] = ⊥
IsClosed (s ∷ []) = s.guard ≡ []
IsClosed (s ∷ t ∷ ss) = IsClosed (t ∷ ss)

-- the tests of a step's guard and its changes pass these
abbrev pub step_says : (Atom → Bool) → (Change → Bool) → Step → Bool
step_says on_atom on_change s = list_all (λ l. on_atom l.atom) s.guard && list_all on_change s.actions

-- the tests and changes from a node on pass these
abbrev pub said_by : (Atom → Bool) → (Change → Bool) → (ℕ → Bool) → NodeKind → Bool
said_by on_atom on_change child (Test a met unmet) = on_atom a && (child met && child unmet)
said_by on_atom on_change child (Do c next) = on_change c && child next
said_by on_atom on_change child (Stop accept) = true

abbrev pub said_at : (Atom → Bool) → (Change → Bool) → List NodeKind → ℕ → Bool
said_at on_atom on_change nodes p = fold_at true (said_by on_atom on_change) nodes p

-- the node's own test or change passes
abbrev pub says_own : (Atom → Bool) → (Change → Bool) → NodeKind → Bool
says_own on_atom on_change (Test a met unmet) = on_atom a
says_own on_atom on_change (Do c next) = on_change c
says_own on_atom on_change (Stop accept) = true
