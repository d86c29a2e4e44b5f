-- What the calls of users come to, from the branch or the choice that they make.
use Rattle.std.proofs.Common.{◌≡◌, ℕ, Bool, true, false, not, ◌&&◌, ◌||◌, List, length, Result, Ok, Err, IfOk, if◌then◌else◌, refl, ◌∙◌, slice_index_or}
use Rattle.bit_diagrams.specs.declared.waiting.Choice.{Choice}
use Rattle.bit_diagrams.specs.Store.{Store}
use Rattle.bit_diagrams.specs.Meaning.{holds, Stands, Keeps}
use Rattle.bit_diagrams.specs.Choice.{Grows, IsBranch, IsChoiceOf, IsAnswer, choice_holds}
use Rattle.bit_diagrams.proofs.HoldsLemmas.{holds_on-false, holds_on-true}
use Rattle.bit_diagrams.proofs.StepLemmas.{choice_holds-grows}

-- what holds of a value of an `Ok` holds of it in other words
pub IfOk-map : {T E : Type 0} (P Q : T → Type 0) (r : Result T E) → ((x : T) → P x → Q x) → IfOk r P
    → IfOk r Q
IfOk-map P Q (Ok x) f h = f x h
IfOk-map P Q (Err e) f h = h

-- over several calls: what the second keeps of what the first kept
pub Keeps-trans : (a b c : Store) → Keeps a b → Keeps b c → Keeps a c
Keeps-trans a b c first second = record {
  places = second.places ∙ first.places;
  of_store = λ id of. second.of_store id (first.of_store id of);
  exact = λ id of bits. second.exact id (first.of_store id of) bits ∙ first.exact id of bits;
}

-- an Id stands for what it stood for
pub Stands-keeps : (old new : Store) (id : ℕ) (test : List Bool → Bool) → Keeps old new
    → Stands old id test → Stands new id test
Stands-keeps old new id test k h = record {
  of_store = k.of_store id h.of_store;
  exact = λ bits full. k.exact id h.of_store bits ∙ h.exact bits (full ∙ k.places);
}

-- an Id that stands for one test stands for each that gives the same
pub Stands-as : (s : Store) (id : ℕ) (test other : List Bool → Bool)
    → ((bits : List Bool) → length bits ≡ s.places → test bits ≡ other bits) → Stands s id test
    → Stands s id other
Stands-as s id test other same h = record {
  of_store = h.of_store;
  exact = λ bits full. h.exact bits full ∙ same bits full;
}

-- the branch between false and true at a place is its bit
pub bit_stands : (s : Store) (place id : ℕ)
    → IsBranch s (record { place = place; low = 0; high = 1 }) id
    → Stands s id (λ bits. slice_index_or bits place false)
bit_stands s place id h = record {
  of_store = h.of_store;
  exact = λ bits full.
      h.exact bits
      ∙ elim (slice_index_or bits place false) as
      (λ b. (if b then holds s 1 bits else holds s 0 bits) ≡ b) [
        | true ↦ holds_on-true s.nodes bits
        | false ↦ holds_on-false s.nodes bits
      ];
}

-- the answer of a choice is the choice, as the old store tells it
pub choice_stands : (old new : Store) (c : Choice) (id : ℕ) → Grows old new → IsChoiceOf old c
    → IsAnswer new c id → Stands new id (choice_holds old c)
choice_stands old new c id g of h = record {
  of_store = h.of_store;
  exact = λ bits full. h.exact bits ∙ choice_holds-grows old new c bits g of;
}

-- a choice with a constant is an and, an or, or a not
pub choice_and : (s : Store) (a b : ℕ) (bits : List Bool)
    → (if holds s a bits then holds s b bits else holds s 0 bits)
    ≡ (holds s a bits && holds s b bits)
choice_and s a b bits =
    elim (holds s a bits) as
    (λ v. (if v then holds s b bits else holds s 0 bits) ≡ (v && holds s b bits))
    [ true ↦ refl | false ↦ holds_on-false s.nodes bits ]

pub choice_or : (s : Store) (a b : ℕ) (bits : List Bool)
    → (if holds s a bits then holds s 1 bits else holds s b bits)
    ≡ (holds s a bits || holds s b bits)
choice_or s a b bits =
    elim (holds s a bits) as
    (λ v. (if v then holds s 1 bits else holds s b bits) ≡ (v || holds s b bits))
    [ true ↦ holds_on-true s.nodes bits | false ↦ refl ]

pub choice_not : (s : Store) (a : ℕ) (bits : List Bool)
    → (if holds s a bits then holds s 0 bits else holds s 1 bits) ≡ not (holds s a bits)
choice_not s a bits =
    elim (holds s a bits) as (λ v. (if v then holds s 0 bits else holds s 1 bits) ≡ not v)
    [ true ↦ holds_on-false s.nodes bits | false ↦ holds_on-true s.nodes bits ]
