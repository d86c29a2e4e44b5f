-- What an Id stands for: the lists of bits, one bit a place, on which it holds.
use Rattle.std.specs.Prelude.{◌≡◌, ◌≢◌, ℕ, Bool, true, false, List, [], ◌∷◌, length, Option, Some, None, if◌then◌else◌, ◌==◌, slice_index_or}
use Rattle.bit_diagrams.specs.declared.parts.Node.{Node}
use Rattle.bit_diagrams.specs.Store.{Store, ids, constant_id, IsIdOf}

-- the child of a node that the bit at its place chooses
abbrev pub child_on : Node → List Bool → ℕ
child_on n bits = if slice_index_or bits n.place false then n.high else n.low

-- whether an Id holds on bits: true does, false does not, a node does where the chosen child does
unfoldable pub holds_on : List Node → ℕ → List Bool → Bool
holds_on [] id bits = id == 1
holds_on (n ∷ older) id bits = holds_on older (if id == ids older then child_on n bits else id) bits

-- whether an Id of a store holds on bits
abbrev pub holds : Store → ℕ → List Bool → Bool
holds s id bits = holds_on s.nodes id bits

-- the Id is of the store, and holds exactly on the lists of one bit a place that pass the test
pub record Stands (s : Store) (id : ℕ) (test : List Bool → Bool) : Type 0 where
  pub of_store : IsIdOf s id
  pub exact : (bits : List Bool) → length bits ≡ s.places → holds s id bits ≡ test bits

-- every Id of the old store is of the new one, and stands for what it stood for
pub record Keeps (old new : Store) : Type 0 where
  pub places : new.places ≡ old.places
  pub of_store : (id : ℕ) → IsIdOf old id → IsIdOf new id
  pub exact : (id : ℕ) → IsIdOf old id → (bits : List Bool) → holds new id bits ≡ holds old id bits

-- what is found for an Id: nothing exactly for that of false, else bits on which it holds
abbrev pub Finds : Store → ℕ → Option (List Bool) → Type 0
Finds s id None = (id ≡ constant_id false)
    × ((bits : List Bool) → length bits ≡ s.places → holds s id bits ≡ false)
Finds s id (Some bits) = (id ≢ constant_id false) × (length bits ≡ s.places) × (holds s id bits ≡ true)
