-- Two Ids of one store that hold on the same bits are equal.
use Rattle.std.proofs.Common.{◌≡◌, ℕ, zero, suc, ◌<◌, ◌≤◌, Bool, true, false, List, length, Some, if◌then◌else◌, refl, sym, ap, ◌∙◌, inl, inr, arith, set, replicate, length-set, true≢false}
use Rattle.std.proofs.lemmas.Bool.{cases_order, cases_lt}
use Rattle.std.proofs.Math.ListN.{length-replicate}
use Rattle.bit_diagrams.specs.declared.parts.Node.{Node}
use Rattle.bit_diagrams.specs.Store.{ids, node_at, place_of, AreNodes}
use Rattle.bit_diagrams.specs.Meaning.{holds_on}
use Rattle.bit_diagrams.proofs.NodeLemmas.{node_facts, node_at-there, node_at-once, place_of-node, place_of-constant}
use Rattle.bit_diagrams.proofs.HoldsLemmas.{holds_on-child, holds_on-set_before, holds_on-false, holds_on-true}

-- two Ids hold on the same lists of one bit a place
pub HoldAlike : ℕ → List Node → ℕ → ℕ → Type 0
HoldAlike places nodes a b = (bits : List Bool) → length bits ≡ places
    → holds_on nodes a bits ≡ holds_on nodes b bits

-- no constants, which differ on every list
constants_differ : (places : ℕ) (nodes : List Node) → HoldAlike places nodes 0 1 → ⊥
unfolding HoldAlike
constants_differ places nodes alike =
    let bits = replicate places false in
    true≢false (sym (sym (holds_on-false nodes bits) ∙ alike bits (length-replicate places false)
    ∙ holds_on-true nodes bits))

alike_sym : (places : ℕ) (nodes : List Node) (a b : ℕ) → HoldAlike places nodes a b
    → HoldAlike places nodes b a
unfolding HoldAlike
alike_sym places nodes a b alike = λ bits full. sym (alike bits full)

same_constant : (places : ℕ) (nodes : List Node) (a b : ℕ) → a < 2 → b < 2
    → HoldAlike places nodes a b → a ≡ b
unfolding HoldAlike
same_constant places nodes zero zero at_a at_b alike = refl
same_constant places nodes zero (suc zero) at_a at_b alike = absurd (constants_differ places nodes alike)
same_constant places nodes (suc zero) zero at_a at_b alike = absurd
    (constants_differ places nodes (alike_sym places nodes 1 0 alike))
same_constant places nodes (suc zero) (suc zero) at_a at_b alike = refl
same_constant places nodes (suc (suc a)) b at_a at_b alike = absurd (omega arith)
same_constant places nodes a (suc (suc b)) at_a at_b alike = absurd (omega arith)

-- an Id alike to a node, and of a later place, is alike to both of its children
child_alike : (places : ℕ) (nodes : List Node) (a b : ℕ) (n : Node) (v : Bool)
    → AreNodes places nodes → node_at nodes a ≡ Some n → n.place < place_of places nodes b
    → HoldAlike places nodes a b → HoldAlike places nodes (if v then n.high else n.low) b
unfolding HoldAlike
child_alike places nodes a b n v are is later alike = λ bits full.
    holds_on-child places nodes a n bits v are is full
    ∙ alike (set bits n.place v) (length-set bits n.place v ∙ full)
    ∙ holds_on-set_before places nodes b bits n.place v are later

-- two nodes of one place that are alike have children that are alike
children_alike : (places : ℕ) (nodes : List Node) (a b : ℕ) (n k : Node) (v : Bool)
    → AreNodes places nodes → node_at nodes a ≡ Some n → node_at nodes b ≡ Some k
    → n.place ≡ k.place
    → HoldAlike places nodes a b
    → HoldAlike places nodes (if v then n.high else n.low) (if v then k.high else k.low)
unfolding HoldAlike
children_alike places nodes a b n k v are is_a is_b same alike = λ bits full.
    holds_on-child places nodes a n bits v are is_a full
    ∙ alike (set bits n.place v) (length-set bits n.place v ∙ full)
    ∙ ap (λ p. holds_on nodes b (set bits p v)) same
    ∙ sym (holds_on-child places nodes b k bits v are is_b full)

alike_join : (places : ℕ) (nodes : List Node) (a b c : ℕ) → HoldAlike places nodes a c
    → HoldAlike places nodes b c → HoldAlike places nodes a b
unfolding HoldAlike
alike_join places nodes a b c p q = λ bits full. p bits full ∙ sym (q bits full)

-- the claim for Ids below a bound
SameBelow : ℕ → List Node → ℕ → Type 0
SameBelow places nodes bound = (a b : ℕ) → a < bound → b < bound → a < ids nodes → b < ids nodes
    → HoldAlike places nodes a b → a ≡ b

-- a node's Id is alike to no Id of a later place
not_later : (places : ℕ) (nodes : List Node) (bound a b : ℕ) → AreNodes places nodes
    → SameBelow places nodes bound → a < suc bound → a < ids nodes → b < ids nodes
    → place_of places nodes a < place_of places nodes b → place_of places nodes b ≤ places
    → HoldAlike places nodes a b → ⊥
unfolding SameBelow
not_later places nodes bound a b are below at_a of_a of_b later within alike =
    elim (cases_lt a 2) [
      | inl w ↦ omega (arith, place_of-constant places nodes a w)
      | inr w ↦
          let there = node_at-there nodes a w of_a in
          let n = there.0 in
          let h = node_facts places nodes a n are there.1 in
          let deeper : n.place < place_of places nodes b =
          omega (arith, place_of-node places nodes a n there.1) in
          h.differ (below n.low n.high (omega (arith, h.low_before)) (omega (arith, h.high_before))
          (omega (arith, h.low_before)) (omega (arith, h.high_before))
          (alike_join places nodes n.low n.high b
          (child_alike places nodes a b n false are there.1 deeper alike)
          (child_alike places nodes a b n true are there.1 deeper alike)))
    ]

-- no place lies past the last
pub place_of-le : (places : ℕ) (nodes : List Node) (id : ℕ) → AreNodes places nodes → id < ids nodes
    → place_of places nodes id ≤ places
place_of-le places nodes id are of =
    elim (cases_lt id 2) [
      | inl w ↦ omega (arith, place_of-constant places nodes id w)
      | inr w ↦
          let there = node_at-there nodes id w of in
          let h = node_facts places nodes id there.0 are there.1 in
          omega (arith, place_of-node places nodes id there.0 there.1, h.within)
    ]

same_node : (n k : Node) → n.place ≡ k.place → n.low ≡ k.low → n.high ≡ k.high → n ≡ k
same_node n k p l h = λ i. record { place = p i; low = l i; high = h i }

-- Ids of one place
same_at_place : (places : ℕ) (nodes : List Node) (bound a b : ℕ) → AreNodes places nodes
    → SameBelow places nodes bound → a < suc bound → b < suc bound → a < ids nodes → b < ids nodes
    → place_of places nodes a ≡ place_of places nodes b → HoldAlike places nodes a b → a ≡ b
unfolding SameBelow
same_at_place places nodes bound a b are below at_a at_b of_a of_b same alike =
    elim (cases_lt a 2) [
      | inl w ↦ elim (cases_lt b 2) [
        | inl v ↦ same_constant places nodes a b w v alike
        | inr v ↦
            let there = node_at-there nodes b v of_b in
            let h = node_facts places nodes b there.0 are there.1 in
            absurd (omega (
              arith,
              place_of-constant places nodes a w,
              place_of-node places nodes b there.0 there.1,
              h.within,
            ))
      ]
      | inr w ↦
          let there_a = node_at-there nodes a w of_a in
          let n = there_a.0 in
          let h = node_facts places nodes a n are there_a.1 in
          elim (cases_lt b 2) [
            | inl v ↦ absurd (omega (
              arith,
              place_of-constant places nodes b v,
              place_of-node places nodes a n there_a.1,
              h.within,
            ))
            | inr v ↦
                let there_b = node_at-there nodes b v of_b in
                let k = there_b.0 in
                let g = node_facts places nodes b k are there_b.1 in
                let p : n.place ≡ k.place =
                sym (place_of-node places nodes a n there_a.1) ∙ same
                ∙ place_of-node places nodes b k there_b.1 in
                let low : n.low ≡ k.low =
                below n.low k.low (omega (arith, h.low_before)) (omega (arith, g.low_before))
                (omega (arith, h.low_before)) (omega (arith, g.low_before))
                (children_alike places nodes a b n k false are there_a.1 there_b.1 p alike) in
                let high : n.high ≡ k.high =
                below n.high k.high (omega (arith, h.high_before))
                (omega (arith, g.high_before)) (omega (arith, h.high_before))
                (omega (arith, g.high_before))
                (children_alike places nodes a b n k true are there_a.1 there_b.1 p alike) in
                let is_n : node_at nodes b ≡ Some n =
                there_b.1 ∙ ap (λ m. Some m) (sym (same_node n k p low high)) in
                node_at-once places nodes a b n are there_a.1 is_n
          ]
    ]

same_below : (places : ℕ) (nodes : List Node) (bound : ℕ) → AreNodes places nodes
    → SameBelow places nodes bound
unfolding SameBelow
same_below places nodes zero are = λ a b at_a at_b of_a of_b alike. absurd (omega arith)
same_below places nodes (suc bound) are = λ a b at_a at_b of_a of_b alike.
    let below = same_below places nodes bound are in
    elim (cases_order (place_of places nodes a) (place_of places nodes b)) [
      | inl same ↦ same_at_place places nodes bound a b are below at_a at_b of_a of_b same alike
      | inr apart ↦ elim apart [
        | inl later ↦ absurd (not_later places nodes bound a b are below at_a of_a of_b later
            (place_of-le places nodes b are of_b) alike)
        | inr sooner ↦ absurd
            (not_later places nodes bound b a are below at_b of_b of_a sooner
            (place_of-le places nodes a are of_a) (alike_sym places nodes a b alike))
      ]
    ]

-- two Ids of one store that hold on the same bits are equal
pub same_id : (places : ℕ) (nodes : List Node) (a b : ℕ) → AreNodes places nodes → a < ids nodes
    → b < ids nodes
    → ((bits : List Bool) → length bits ≡ places → holds_on nodes a bits ≡ holds_on nodes b bits) → a ≡ b
unfolding SameBelow HoldAlike
same_id places nodes a b are of_a of_b alike = same_below places nodes (ids nodes)
    are a b of_a of_b of_a of_b alike
