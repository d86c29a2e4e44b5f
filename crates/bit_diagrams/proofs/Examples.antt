-- Worked examples, which the checker computes: a store of two places with the nodes of bit 1 and of
-- both bits.
use Rattle.std.proofs.Common.{◌≡◌, true, false, List, [], ◌∷◌, Some, None, refl}
use Rattle.bit_diagrams.specs.declared.parts.Node.{Node}
use Rattle.bit_diagrams.specs.Store.{node_at, place_of}
use Rattle.bit_diagrams.specs.Meaning.{holds_on}

bit_one : Node
bit_one = record { place = 1; low = 0; high = 1 }

both_bits : Node
both_bits = record { place = 0; low = 0; high = 2 }

example : List Node
example = both_bits ∷ bit_one ∷ []

-- the oldest node has Id 2, and the constants name none
second_id : node_at example 2 ≡ Some bit_one
unfolding example node_at
second_id = refl

newest_id : node_at example 3 ≡ Some both_bits
unfolding example node_at
newest_id = refl

constant_names_none : node_at example 1 ≡ None
unfolding example node_at
constant_names_none = refl

-- places rise from parent to child
places_rise : place_of 2 example 3 ≡ 0
unfolding example both_bits bit_one node_at place_of
places_rise = refl

place_of_true : place_of 2 example 1 ≡ 2
unfolding example both_bits bit_one node_at place_of
place_of_true = refl

-- both bits hold where both are true
on_true_true : holds_on example 3 (true ∷ true ∷ []) ≡ true
unfolding example both_bits bit_one holds_on
on_true_true = refl

on_true_false : holds_on example 3 (true ∷ false ∷ []) ≡ false
unfolding example both_bits bit_one holds_on
on_true_false = refl

on_false_true : holds_on example 3 (false ∷ true ∷ []) ≡ false
unfolding example both_bits bit_one holds_on
on_false_true = refl

bit_one_on_false_true : holds_on example 2 (false ∷ true ∷ []) ≡ true
unfolding example both_bits bit_one holds_on
bit_one_on_false_true = refl
