-- The steps that are still to come, as the code keeps them: nodes that wait, each with its guard and its end.
use Rattle.std.specs.Prelude.{◌≡◌, ℕ, ◌<◌, ◌≤◌, ◌+◌, ◌^◌, Bool, true, false, List, [], ◌∷◌, ◌++◌, map, length, Option}
use Rattle.core_nodes.specs.declared.atom.Atom.{Atom}
use Rattle.core_nodes.specs.declared.node.NodeKind.{NodeKind}
use Rattle.core_nodes.specs.declared.node.NodeKind.TheVariants.{Test, Do, Stop}
use Rattle.policy_core.specs.declared.step.Literal.{Literal}
use Rattle.policy_core.specs.declared.step.Step.{Step}
use Rattle.policy_core.specs.declared.listing.Waiting.{Waiting}
use Rattle.policy_core.specs.Settled.{IsSettled}
use Rattle.policy_core.specs.Steps.{listed_at, unless_end, first_part}

-- the step is also guarded by all these literals
abbrev pub guarded : List Literal → Step → Step
guarded guard s = record { guard = guard ++ s.guard; actions = s.actions; accept = s.accept }

-- the literal that wants the test to hold
abbrev pub wants : Atom → Literal
wants a = record { atom = a; wanted = true }

-- the node is a test
abbrev pub is_test : NodeKind → Bool
is_test (Test a met unmet) = true
is_test (Do c next) = false
is_test (Stop accept) = false

-- the steps of a node that waits
abbrev pub steps_of : List NodeKind → Waiting → List Step
steps_of nodes w = map (guarded w.guard) (unless_end (listed_at nodes w.place) w.place w.end)

-- the steps of all nodes that wait, the first one first
unfoldable pub coming : List NodeKind → List Waiting → List Step
coming nodes [] = []
coming nodes (w ∷ ws) = steps_of nodes w ++ coming nodes ws

-- a node that waits is one of the graph's, and settled
pub record MayWait (nodes : List NodeKind) (p : ℕ) : Type 0 where
  pub within : p < length nodes
  pub settled : IsSettled nodes p

-- all that wait may
unfoldable pub AllMayWait : List NodeKind → List Waiting → Type 0
AllMayWait nodes [] = Unit {0}
AllMayWait nodes (w ∷ ws) = MayWait nodes w.place × AllMayWait nodes ws

-- how much there is to do at most: a node leads to two older ones
unfoldable pub work : List Waiting → ℕ
work [] = 0
work (w ∷ ws) = 3 ^ w.place + work ws

-- the child `no` of a test waits, up to an end and under a guard, but where it is the end
pub record Leaves (end : Option ℕ) (guard : List Literal) (unmet : ℕ) (before after : List Waiting) : Type 0 where
  pub steps : (nodes : List NodeKind) → coming nodes after ≡ steps_of nodes (record { place = unmet; end = end; guard = guard }) ++ coming nodes before
  pub may : (nodes : List NodeKind) → MayWait nodes unmet → AllMayWait nodes before → AllMayWait nodes after
  pub less : work after ≤ 3 ^ unmet + work before

-- the node on top is taken: its steps are found, or those of what waits now, and less is to be done
pub record Takes (nodes : List NodeKind) (w : Waiting) (before : List Waiting) (found_before : List Step) (after : List Waiting) (found : List Step) : Type 0 where
  pub steps : found ++ coming nodes after ≡ found_before ++ (steps_of nodes w ++ coming nodes before)
  pub may : AllMayWait nodes after
  pub less : work after < 3 ^ w.place + work before

-- the child `yes` of a test is taken: the steps of its list up to the child `no`
pub record TakesFirst (nodes : List NodeKind) (met unmet : ℕ) (guard : List Literal) (before : List Waiting) (found_before : List Step) (after : List Waiting) (found : List Step) : Type 0 where
  pub steps : found ++ coming nodes after ≡ found_before ++ (map (guarded guard) (first_part (listed_at nodes met) met unmet) ++ coming nodes before)
  pub may : AllMayWait nodes after
  pub less : work after ≤ 3 ^ met + work before
