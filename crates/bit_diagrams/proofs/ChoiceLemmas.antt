-- Answers that show at once, halves of a choice, and the node that a choice comes to.
use Rattle.std.proofs.Common.{◌≡◌, ℕ, ◌<◌, ◌≤◌, Bool, true, false, List, Some, if◌then◌else◌, refl, sym, ap, ◌∙◌, arith, slice_index_or}
use Rattle.bit_diagrams.specs.declared.parts.Node.{Node}
use Rattle.bit_diagrams.specs.declared.waiting.Choice.{Choice}
use Rattle.bit_diagrams.specs.Store.{Store, IsIdOf, IsStore, node_at, place_of}
use Rattle.bit_diagrams.specs.Meaning.{holds}
use Rattle.bit_diagrams.specs.Choice.{IsChoiceOf, IsAnswer, IsCofactor, IsHalf, IsDeeper, IsNodeFor, choice_place, choice_holds}
use Rattle.bit_diagrams.proofs.NodeLemmas.{node_facts, node_at-there, place_of-node}
use Rattle.bit_diagrams.proofs.HoldsLemmas.{holds_on-node, holds_on-false, holds_on-true}

-- a choice looks at no place after its parts' places
pub place-le_test : (s : Store) (c : Choice) → choice_place s c ≤ place_of s.places s.nodes c.test
unfolding choice_place
place-le_test s c = omega arith

pub place-le_high : (s : Store) (c : Choice) → choice_place s c ≤ place_of s.places s.nodes c.high
unfolding choice_place
place-le_high s c = omega arith

pub place-le_low : (s : Store) (c : Choice) → choice_place s c ≤ place_of s.places s.nodes c.low
unfolding choice_place
place-le_low s c = omega arith

-- the test is false
pub answer_low : (s : Store) (c : Choice) → IsChoiceOf s c → c.test ≡ 0 → IsAnswer s c c.low
answer_low s c of is = record {
  of_store = of.of_low;
  rises = place-le_low s c;
  exact = λ bits.
      let test : holds s c.test bits ≡ false =
      ap (λ i. holds s i bits) is ∙ holds_on-false s.nodes bits in
      sym (ap (λ b. if b then holds s c.high bits else holds s c.low bits) test);
}

-- the test is true
pub answer_high : (s : Store) (c : Choice) → IsChoiceOf s c → c.test ≡ 1 → IsAnswer s c c.high
answer_high s c of is = record {
  of_store = of.of_high;
  rises = place-le_high s c;
  exact = λ bits.
      let test : holds s c.test bits ≡ true = ap (λ i. holds s i bits) is ∙ holds_on-true s.nodes bits in
      sym (ap (λ b. if b then holds s c.high bits else holds s c.low bits) test);
}

-- both are one
pub answer_same : (s : Store) (c : Choice) → IsChoiceOf s c → c.high ≡ c.low → IsAnswer s c c.high
answer_same s c of is = record {
  of_store = of.of_high;
  rises = place-le_high s c;
  exact = λ bits.
      elim (holds s c.test bits) as
      (λ b. holds s c.high bits ≡ (if b then holds s c.high bits else holds s c.low bits)) [
        | true ↦ refl
        | false ↦ ap (λ i. holds s i bits) is
      ];
}

-- the choice between true and false
pub answer_test : (s : Store) (c : Choice) → IsChoiceOf s c → c.high ≡ 1 → c.low ≡ 0
    → IsAnswer s c c.test
answer_test s c of is_high is_low = record {
  of_store = of.of_test;
  rises = place-le_test s c;
  exact = λ bits.
      let high : holds s c.high bits ≡ true =
      ap (λ i. holds s i bits) is_high ∙ holds_on-true s.nodes bits in
      let low : holds s c.low bits ≡ false =
      ap (λ i. holds s i bits) is_low ∙ holds_on-false s.nodes bits in
      elim (holds s c.test bits) as
      (λ b. b ≡ (if b then holds s c.high bits else holds s c.low bits))
      [ true ↦ sym high | false ↦ sym low ];
}

-- an Id of a later place is its own cofactor
pub cofactor_self : (s : Store) (id place : ℕ) (v : Bool) → place < place_of s.places s.nodes id
    → IsCofactor s id place v id
cofactor_self s id place v later = record {
  smaller = omega arith;
  later = later;
  exact = λ bits e. refl;
}

-- a node of the place has its child as cofactor
pub cofactor_child : (s : Store) (id : ℕ) (n : Node) (v : Bool) → IsStore s
    → node_at s.nodes id ≡ Some n → IsCofactor s id n.place v (if v then n.high else n.low)
cofactor_child s id n v are is =
    let h = node_facts s.places s.nodes id n are is in
    record {
      smaller = elim v as (λ b. (if b then n.high else n.low) ≤ id)
          [ true ↦ omega (arith, h.high_before) | false ↦ omega (arith, h.low_before) ];
      later = elim v as (λ b. n.place < place_of s.places s.nodes (if b then n.high else n.low))
          [ true ↦ h.high_rises | false ↦ h.low_rises ];
      exact = λ bits e. ap (λ b. holds s (if b then n.high else n.low) bits) (sym e)
          ∙ sym (holds_on-node s.places s.nodes id n bits are is);
    }

-- an open choice looks at a place
pub choice_within : (s : Store) (c : Choice) → IsStore s → IsIdOf s c.test → 2 ≤ c.test
    → choice_place s c < s.places
choice_within s c are of tests =
    let there = node_at-there s.nodes c.test tests of in
    let h = node_facts s.places s.nodes c.test there.0 are there.1 in
    omega (arith, place-le_test s c, place_of-node s.places s.nodes c.test there.0 there.1, h.within)

-- a half is the choice, further down
pub deeper_half : (s : Store) (c : Choice) (place : ℕ) (v : Bool) (half : Choice)
    → place ≡ choice_place s c → IsHalf s c place v half → IsDeeper s c half
unfolding choice_place
deeper_half s c place v half at h = record {
  test = h.test.smaller;
  high = h.high.smaller;
  low = h.low.smaller;
  later = omega (arith, at, h.test.later, h.high.later, h.low.later);
}

-- a half holds as the choice does where its bit is so
half_holds : (s : Store) (c : Choice) (place : ℕ) (v : Bool) (half : Choice) (bits : List Bool)
    → IsHalf s c place v half → slice_index_or bits place false ≡ v
    → choice_holds s half bits ≡ choice_holds s c bits
half_holds s c place v half bits h e =
    let t = h.test.exact bits e in
    let a = h.high.exact bits e in
    let b = h.low.exact bits e in
    λ i. if t i then a i else b i

-- the answers of the two halves are the children of the choice's node
pub node_for : (s : Store) (c low_half high_half : Choice) (place low high : ℕ)
    → place ≡ choice_place s c → IsHalf s c place false low_half → IsHalf s c place true high_half
    → IsAnswer s low_half low → IsAnswer s high_half high
    → IsNodeFor s c (record { place = place; low = low; high = high })
node_for s c low_half high_half place low high at l h answer_l answer_h =
    let down_l = deeper_half s c place false low_half at l in
    let down_h = deeper_half s c place true high_half at h in
    record {
      at = at;
      of_low = answer_l.of_store;
      of_high = answer_h.of_store;
      low_rises = omega (arith, at, down_l.later, answer_l.rises);
      high_rises = omega (arith, at, down_h.later, answer_h.rises);
      exact = λ bits.
          let by : (b : Bool) → slice_index_or bits place false ≡ b
          → (if b then holds s high bits else holds s low bits) ≡ choice_holds s c bits =
          λ b. elim b as (λ v. slice_index_or bits place false ≡ v
          → (if v then holds s high bits else holds s low bits) ≡ choice_holds s c bits) [
            | true ↦ λ e. answer_h.exact bits ∙ half_holds s c place true high_half bits h e
            | false ↦ λ e. answer_l.exact bits ∙ half_holds s c place false low_half bits l e
          ] in
          by (slice_index_or bits place false) refl;
    }
