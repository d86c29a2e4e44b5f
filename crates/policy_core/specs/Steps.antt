-- The guarded steps of a node: its list up to an end, which is a node or none.
use Rattle.std.specs.Prelude.{ℕ, ◌==◌, Bool, true, false, List, [], ◌∷◌, ◌++◌, map, Option, Some, None}
use Rattle.core_nodes.specs.declared.atom.Atom.{Atom}
use Rattle.core_nodes.specs.declared.node.NodeKind.{NodeKind}
use Rattle.core_nodes.specs.declared.node.NodeKind.TheVariants.{Test, Do, Stop}
use Rattle.route_types.specs.declared.change.Change.{Change}
use Rattle.policy_core.specs.declared.step.Literal.{Literal}
use Rattle.policy_core.specs.declared.step.Step.{Step}
use Rattle.policy_core.specs.Fold.{fold_at}

-- the step is also guarded by the test
abbrev pub under : Atom → Step → Step
under a s = record { guard = record { atom = a; wanted = true } ∷ s.guard; actions = s.actions; accept = s.accept }

-- the change comes before what the step does
abbrev pub behind : Change → Step → Step
behind c s = record { guard = s.guard; actions = c ∷ s.actions; accept = s.accept }

-- the step that only ends
abbrev pub last_step : Bool → Step
last_step accept = record { guard = []; actions = []; accept = accept }

-- the lists of a node: the one step of a node that ends or changes, none of a test; and its steps up to an end
pub record Listed : Type 0 where
  pub alone : List Step
  pub upto : Option ℕ → List Step

-- the end is this node
abbrev pub is_end : Option ℕ → ℕ → Bool
is_end None p = false
is_end (Some q) p = p == q

-- the list of the node p up to an end: empty where the node is the end
abbrev pub unless_end : Listed → ℕ → Option ℕ → List Step
unless_end l p end = elim (is_end end p) [ true ↦ [] | false ↦ l.upto end ]

-- the list of the child `yes` up to the child `no`; where both are one node that ends or changes, its one step
abbrev pub first_part : Listed → ℕ → ℕ → List Step
first_part l met unmet = elim (met == unmet) [ true ↦ l.alone | false ↦ l.upto (Some unmet) ]

-- the lists of a node, from those of its children: of a test those of `yes`, each also guarded by it, then those of `no`
abbrev pub listed_by : (ℕ → Listed) → NodeKind → Listed
listed_by child (Test a met unmet) = record { alone = []; upto = λ end. map (under a) (first_part (child met) met unmet) ++ unless_end (child unmet) unmet end }
listed_by child (Do c next) = record { alone = map (behind c) (child next).alone; upto = λ end. map (behind c) (child next).alone }
listed_by child (Stop accept) = record { alone = last_step accept ∷ []; upto = λ end. last_step accept ∷ [] }

-- the lists of the node at a place
abbrev pub listed_at : List NodeKind → ℕ → Listed
listed_at nodes p = fold_at (record { alone = []; upto = λ end. [] }) listed_by nodes p

-- the steps of the node at a place: its list up to no end
abbrev pub steps_at : List NodeKind → ℕ → List Step
steps_at nodes p = (listed_at nodes p).upto None
