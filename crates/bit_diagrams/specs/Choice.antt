-- What a store works out: choices of Ids, their answers, and the steps between.
use Rattle.std.specs.Prelude.{◌≡◌, ℕ, ◌<◌, ◌≤◌, min, Bool, false, ◌&&◌, List, ◌++◌, Option, Some, None, if◌then◌else◌, ◌==◌, slice_index_or}
use Rattle.std.specs.HashMap.{HashMap, get}
use Rattle.std.specs.declared.hash.FoldHasher.{FoldHasher}
use Rattle.std.specs.declared.hash.BuildHasherDefault.{BuildHasherDefault}
use Rattle.bit_diagrams.specs.declared.parts.Node.{Node}
use Rattle.bit_diagrams.specs.declared.waiting.Choice.{Choice}
use Rattle.bit_diagrams.specs.declared.apply.Step.{Step}
use Rattle.bit_diagrams.specs.declared.apply.Step.TheVariants.{Descend, Join}
use Rattle.bit_diagrams.specs.Store.{Store, IsIdOf, place_of}
use Rattle.bit_diagrams.specs.Meaning.{holds}

-- the new store has the nodes of the old one, and maybe newer ones
pub record Grows (old new : Store) : Type 0 where
  pub places : new.places ≡ old.places
  pub nodes : (added : List Node) × (new.nodes ≡ added ++ old.nodes)

-- an Id that stands for a node with these children: for the one that the bit at the place chooses
pub record IsBranch (s : Store) (n : Node) (id : ℕ) : Type 0 where
  pub of_store : IsIdOf s id
  pub rises : n.place ≤ place_of s.places s.nodes id
  pub exact : (bits : List Bool) → holds s id bits
      ≡ (if slice_index_or bits n.place false then holds s n.high bits else holds s n.low bits)

-- a choice of Ids of a store
pub record IsChoiceOf (s : Store) (c : Choice) : Type 0 where
  pub of_test : IsIdOf s c.test
  pub of_high : IsIdOf s c.high
  pub of_low : IsIdOf s c.low

-- the first place that a choice looks at
unfoldable pub choice_place : Store → Choice → ℕ
choice_place s c = min (place_of s.places s.nodes c.test)
    (min (place_of s.places s.nodes c.high) (place_of s.places s.nodes c.low))

-- whether a choice holds on bits: where the test does, as `high`, and else as `low`
abbrev pub choice_holds : Store → Choice → List Bool → Bool
choice_holds s c bits = if holds s c.test bits then holds s c.high bits else holds s c.low bits

-- an Id that stands for a choice, and looks at no earlier place
pub record IsAnswer (s : Store) (c : Choice) (id : ℕ) : Type 0 where
  pub of_store : IsIdOf s id
  pub rises : choice_place s c ≤ place_of s.places s.nodes id
  pub exact : (bits : List Bool) → holds s id bits ≡ choice_holds s c bits

-- the Id, where the bit at the place is known: of Ids from a later place on, and no larger
pub record IsCofactor (s : Store) (id place : ℕ) (value : Bool) (part : ℕ) : Type 0 where
  pub smaller : part ≤ id
  pub later : place < place_of s.places s.nodes part
  pub exact : (bits : List Bool) → slice_index_or bits place false ≡ value
      → holds s part bits ≡ holds s id bits

-- the choice, where the bit at the place is known
pub record IsHalf (s : Store) (c : Choice) (place : ℕ) (value : Bool) (half : Choice) : Type 0 where
  pub test : IsCofactor s c.test place value half.test
  pub high : IsCofactor s c.high place value half.high
  pub low : IsCofactor s c.low place value half.low

-- whether two choices are of the same Ids
abbrev pub same_choice : Choice → Choice → Bool
same_choice a b = a.test == b.test && (a.high == b.high && a.low == b.low)

-- the answers found so far
abbrev pub Memo : Type 0
Memo = HashMap Choice ℕ (BuildHasherDefault FoldHasher)

-- the answer that was found for a choice
abbrev pub answer_in : Memo → Choice → Option ℕ
answer_in memo c = get same_choice memo c

-- the answer is found for this choice, and the answers for others stay
abbrev pub Remembers : Memo → Memo → Choice → ℕ → Type 0
Remembers old new c id = (q : Choice)
    → answer_in new q ≡ (if same_choice c q then Some id else answer_in old q)

-- every answer found is one, for a choice of the store
pub record IsSound (s : Store) (answer : Choice → Option ℕ) : Type 0 where
  pub choices : (c : Choice) (id : ℕ) → answer c ≡ Some id → IsChoiceOf s c
  pub answers : (c : Choice) (id : ℕ) → answer c ≡ Some id → IsAnswer s c id

-- a choice that has to be worked out: its test is no constant, and no answer was found
pub record IsOpen (s : Store) (answer : Choice → Option ℕ) (c : Choice) : Type 0 where
  pub of_store : IsChoiceOf s c
  pub tests : 2 ≤ c.test
  pub unknown : answer c ≡ None

-- the child is the choice, further down: of Ids that are no larger, from a later place on
pub record IsDeeper (s : Store) (c child : Choice) : Type 0 where
  pub test : child.test ≤ c.test
  pub high : child.high ≤ c.high
  pub low : child.low ≤ c.low
  pub later : choice_place s c < choice_place s child

-- the node that a choice comes to: at its first place, with the answers of its halves as children
pub record IsNodeFor (s : Store) (c : Choice) (n : Node) : Type 0 where
  pub at : n.place ≡ choice_place s c
  pub of_low : IsIdOf s n.low
  pub of_high : IsIdOf s n.high
  pub low_rises : n.place < place_of s.places s.nodes n.low
  pub high_rises : n.place < place_of s.places s.nodes n.high
  pub exact : (bits : List Bool)
      → (if slice_index_or bits n.place false then holds s n.high bits else holds s n.low bits)
      ≡ choice_holds s c bits

-- what a step may be: down to a half that is still open, or the node
abbrev pub IsStepFor : Store → (Choice → Option ℕ) → Choice → Step → Type 0
IsStepFor s answer c (Descend child) = IsOpen s answer child × IsDeeper s c child
IsStepFor s answer c (Join n) = IsNodeFor s c n
