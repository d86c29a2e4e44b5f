-- Worked examples that the checker computes: the steps of small graphs.
use Rattle.std.proofs.Common.{◌≡◌, refl, ℕ, Bool, true, false, List, [], ◌∷◌, map}
use Rattle.core_nodes.specs.declared.atom.Atom.{Atom}
use Rattle.core_nodes.specs.declared.atom.Atom.TheVariants.{MedAtMost, Community}
use Rattle.core_nodes.specs.declared.node.NodeKind.{NodeKind}
use Rattle.core_nodes.specs.declared.node.NodeKind.TheVariants.{Test, Do, Stop}
use Rattle.community_sets.specs.declared.list.CommTest.TheVariants.{AllOf, Exactly}
use Rattle.route_types.specs.declared.change.Change.{Change}
use Rattle.route_types.specs.declared.change.Change.TheVariants.{LocalPreference, Weight}
use Rattle.policy_core.specs.declared.step.Step.{Step}
use Rattle.policy_core.specs.Fold.{fold_at}
use Rattle.policy_core.specs.Settled.{tested_at}
use Rattle.policy_core.specs.Steps.{steps_at}
use Rattle.policy_core.specs.Sayable.{ios_atom, ios_change, junos_change, rpl_atom}
use Rattle.policy_core.specs.Waiting.{wants}

abbrev step : List Atom → List Change → Bool → Step
step asked changes accept = record { guard = map wants asked; actions = changes; accept = accept }

abbrev one : Atom
one = MedAtMost 1

abbrev two : Atom
two = MedAtMost 2

abbrev three : Atom
three = MedAtMost 3

abbrev five : Change
five = LocalPreference 5

-- a straight list: places 0 accept, 1 reject, 2 a change, 3 and 4 tests, one behind the other
straight : steps_at (Test one 0 3 ∷ Test two 2 1 ∷ Do five 0 ∷ Stop false ∷ Stop true ∷ []) 4 ≡ step (one ∷ []) [] true ∷ step (two ∷ []) (five ∷ []) true ∷ step [] [] false ∷ []
unfolding fold_at
straight = refl

-- two tests that both have to hold lead to one node where they fail: its list comes once
both_hold : steps_at (Test one 2 1 ∷ Test two 0 1 ∷ Stop false ∷ Stop true ∷ []) 3 ≡ step (one ∷ two ∷ []) [] true ∷ step [] [] false ∷ []
unfolding fold_at
both_hold = refl

-- a diamond: the two ways of the first test come together in both ends
abbrev crossed : List NodeKind
crossed = Test one 2 3 ∷ Test three 0 1 ∷ Test two 0 1 ∷ Stop false ∷ Stop true ∷ []

diamond : steps_at crossed 4 ≡ step (one ∷ two ∷ []) [] true ∷ step (one ∷ []) [] false ∷ step (three ∷ []) [] true ∷ step [] [] false ∷ []
unfolding fold_at
diamond = refl

-- equal children that end: the node's one step comes under the test, and again behind it
equal_ends : steps_at (Test one 0 0 ∷ Stop true ∷ []) 1 ≡ step (one ∷ []) [] true ∷ step [] [] true ∷ []
unfolding fold_at
equal_ends = refl

-- so it is with equal children that change
equal_changes : steps_at (Test one 1 1 ∷ Do five 0 ∷ Stop true ∷ []) 2 ≡ step (one ∷ []) (five ∷ []) true ∷ step [] (five ∷ []) true ∷ []
unfolding fold_at
equal_changes = refl

-- equal children that test: no step for the first
equal_tests : steps_at (Test one 2 2 ∷ Test two 0 1 ∷ Stop false ∷ Stop true ∷ []) 3 ≡ step (two ∷ []) [] true ∷ step [] [] false ∷ []
unfolding fold_at
equal_tests = refl

-- a test behind a change isn't settled, a change behind a test is
test_behind : (tested_at (Do five 2 ∷ Test one 0 1 ∷ Stop false ∷ Stop true ∷ []) 3).settled ≡ false
unfolding fold_at
test_behind = refl

change_behind : (tested_at (Test one 2 1 ∷ Do five 0 ∷ Stop false ∷ Stop true ∷ []) 3).settled ≡ true
unfolding fold_at
change_behind = refl

-- a list of whole sets is said in IOS alone, beside a list of single communities in no language
exact_in_ios : ios_atom (Community (record { entries = record { permit = true; test = Exactly [] } ∷ [] } ∷ [])) ≡ true
exact_in_ios = refl

exact_in_rpl : rpl_atom (Community (record { entries = record { permit = true; test = Exactly [] } ∷ [] } ∷ [])) ≡ false
exact_in_rpl = refl

mixed_in_ios : ios_atom (Community (record { entries = record { permit = true; test = Exactly [] } ∷ record { permit = true; test = AllOf [] } ∷ [] } ∷ [])) ≡ false
mixed_in_ios = refl

-- a weight isn't set in Junos
weight_in_junos : junos_change (Weight 1) ≡ false
weight_in_junos = refl

weight_in_ios : ios_change (Weight 1) ≡ true
weight_in_ios = refl
