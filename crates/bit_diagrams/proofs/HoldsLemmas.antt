-- On which bits an Id holds, node by node.
use Rattle.std.proofs.Common.{◌≡◌, ℕ, ◌<◌, ◌≤◌, Bool, true, false, List, [], ◌∷◌, ◌++◌, length, Some, if◌then◌else◌, refl, sym, ap, subst, ◌∙◌, inl, inr, eq-eqb, ne_eqb, arith, length-append, slice_index_or, set, get_or-set_other, get_or-set_same}
use Rattle.std.proofs.lemmas.Bool.Decides.{eqb_tells}
use Rattle.bit_diagrams.specs.declared.parts.Node.{Node}
use Rattle.bit_diagrams.specs.Store.{ids, node_at, place_of, AreNodes}
use Rattle.bit_diagrams.specs.Meaning.{child_on, holds_on}
use Rattle.bit_diagrams.proofs.NodeLemmas.{node_facts, node_at-newest, place_of-node}

-- a fact of both children is one of the chosen child
pub at_child : (P : ℕ → Type 0) (n : Node) (bits : List Bool) → P n.low → P n.high → P (child_on n bits)
at_child P n bits low high =
    elim (slice_index_or bits n.place false) as (λ b. P (if b then n.high else n.low))
    [ true ↦ high | false ↦ low ]

-- a further node leaves what the older ones stand for
pub holds_on-older : (n : Node) (older : List Node) (id : ℕ) (bits : List Bool) → id < ids older
    → holds_on (n ∷ older) id bits ≡ holds_on older id bits
unfolding holds_on
holds_on-older n older id bits below = rw (ne_eqb id (ids older) (λ e. omega arith)) refl

-- so do further nodes
pub holds_on-append : (added older : List Node) (id : ℕ) (bits : List Bool) → id < ids older
    → holds_on (added ++ older) id bits ≡ holds_on older id bits
holds_on-append [] older id bits below = refl
holds_on-append (n ∷ added) older id bits below =
    holds_on-older n (added ++ older) id bits (omega (arith, length-append added older))
    ∙ holds_on-append added older id bits below

-- false holds on no bits, and true on all
pub holds_on-false : (nodes : List Node) (bits : List Bool) → holds_on nodes 0 bits ≡ false
unfolding holds_on
holds_on-false [] bits = refl
holds_on-false (n ∷ older) bits = holds_on-older n older 0 bits (omega arith) ∙ holds_on-false older bits

pub holds_on-true : (nodes : List Node) (bits : List Bool) → holds_on nodes 1 bits ≡ true
unfolding holds_on
holds_on-true [] bits = refl
holds_on-true (n ∷ older) bits = holds_on-older n older 1 bits (omega arith) ∙ holds_on-true older bits

-- the newest node holds where the child that its bit chooses does
holds_on-newest : (n : Node) (older : List Node) (bits : List Bool)
    → holds_on (n ∷ older) (ids older) bits ≡ holds_on older (child_on n bits) bits
unfolding holds_on
holds_on-newest n older bits = rw (eq-eqb (ids older) (ids older) refl) refl

-- and so does each node of a store
pub holds_on-node : (places : ℕ) (nodes : List Node) (id : ℕ) (n : Node) (bits : List Bool)
    → AreNodes places nodes → node_at nodes id ≡ Some n
    → holds_on nodes id bits ≡ holds_on nodes (child_on n bits) bits
unfolding node_at AreNodes
holds_on-node places [] id n bits are is = absurd (cc)
holds_on-node places (m ∷ older) id n bits are is =
    let h = node_facts places (m ∷ older) id n are is in
    elim (eqb_tells id (ids older)) [
      | inl w ↦
          let same : Some m ≡ Some n =
          sym (node_at-newest m older) ∙ subst (λ i. node_at (m ∷ older) i ≡ Some n) w.1 is in
          let kin : m ≡ n = cc in
          let before : child_on n bits < ids older =
          at_child (λ i. i < ids older) n bits (omega (arith, h.low_before, w.1))
          (omega (arith, h.high_before, w.1)) in
          subst (λ i. holds_on (m ∷ older) i bits ≡ holds_on (m ∷ older) (child_on n bits) bits)
          (sym w.1)
          (holds_on-newest m older bits ∙ ap (λ k. holds_on older (child_on k bits) bits) kin
          ∙ sym (holds_on-older m older (child_on n bits) bits before))
      | inr w ↦
          let found : node_at older id ≡ Some n = sym (rw (ne_eqb id (ids older) w.1) refl) ∙ is in
          let below : id < ids older = omega (arith, h.below, w.1) in
          let before : child_on n bits < ids older =
          at_child (λ i. i < ids older) n bits (omega (arith, h.low_before))
          (omega (arith, h.high_before)) in
          holds_on-older m older id bits below ∙ holds_on-node places older id n bits are.1 found
          ∙ sym (holds_on-older m older (child_on n bits) bits before)
    ]

-- two lists agree from a place on
pub AgreeFrom : ℕ → List Bool → List Bool → Type 0
AgreeFrom place a b = (k : ℕ) → place ≤ k → slice_index_or a k false ≡ slice_index_or b k false

-- an Id that is not the newest node's has its place among the older nodes
place_of-other : (places : ℕ) (m : Node) (older : List Node) (id : ℕ) → (id ≡ ids older → ⊥)
    → place_of places (m ∷ older) id ≡ place_of places older id
unfolding place_of node_at
place_of-other places m older id apart = rw (ne_eqb id (ids older) apart) refl

AgreeFrom-later : (p q : ℕ) (a b : List Bool) → p ≤ q → AgreeFrom p a b → AgreeFrom q a b
unfolding AgreeFrom
AgreeFrom-later p q a b later agree = λ k least. agree k (omega arith)

-- what lies before the place of an Id does not count for it
pub holds_on-agree : (places : ℕ) (nodes : List Node) (id : ℕ) (a b : List Bool)
    → AreNodes places nodes → AgreeFrom (place_of places nodes id) a b
    → holds_on nodes id a ≡ holds_on nodes id b
unfolding holds_on AreNodes AgreeFrom
holds_on-agree places [] id a b are agree = refl
holds_on-agree places (m ∷ older) id a b are agree =
    elim (eqb_tells id (ids older)) [
      | inl w ↦
          let at : place_of places (m ∷ older) (ids older) ≡ m.place =
          place_of-node places (m ∷ older) (ids older) m (node_at-newest m older) in
          let here : place_of places (m ∷ older) id ≡ m.place =
          subst (λ i. place_of places (m ∷ older) i ≡ m.place) (sym w.1) at in
          let bit : slice_index_or a m.place false ≡ slice_index_or b m.place false =
          agree m.place (omega (arith, here)) in
          let low : holds_on older m.low a ≡ holds_on older m.low b =
          holds_on-agree places older m.low a b are.1
          (λ k least. agree k (omega (arith, here, are.0.low_rises))) in
          let high : holds_on older m.high a ≡ holds_on older m.high b =
          holds_on-agree places older m.high a b are.1
          (λ k least. agree k (omega (arith, here, are.0.high_rises))) in
          subst (λ i. holds_on (m ∷ older) i a ≡ holds_on (m ∷ older) i b) (sym w.1)
          (holds_on-newest m older a
          ∙ at_child (λ i. holds_on older i a ≡ holds_on older i b) m a low high
          ∙ ap (λ v. holds_on older (if v then m.high else m.low) b) bit
          ∙ sym (holds_on-newest m older b))
      | inr w ↦
          let step : (bits : List Bool) → holds_on (m ∷ older) id bits ≡ holds_on older id bits =
          λ bits. rw (ne_eqb id (ids older) w.1) refl in
          step a
          ∙ holds_on-agree places older id a b are.1
          (λ k least. agree k (omega (arith, place_of-other places m older id w.1)))
          ∙ sym (step b)
    ]

-- a written bit does not count for an Id of a later place
pub holds_on-set_before : (places : ℕ) (nodes : List Node) (id : ℕ) (bits : List Bool) (p : ℕ)
    (v : Bool) → AreNodes places nodes → p < place_of places nodes id
    → holds_on nodes id (set bits p v) ≡ holds_on nodes id bits
unfolding AgreeFrom
holds_on-set_before places nodes id bits p v are before =
    holds_on-agree places nodes id (set bits p v) bits are
    (λ k least. get_or-set_other bits p k v false (λ e. omega arith))

-- a node's children are what it stands for with its bit written
pub holds_on-child : (places : ℕ) (nodes : List Node) (id : ℕ) (n : Node) (bits : List Bool)
    (v : Bool) → AreNodes places nodes → node_at nodes id ≡ Some n → length bits ≡ places
    → holds_on nodes (if v then n.high else n.low) bits ≡ holds_on nodes id (set bits n.place v)
holds_on-child places nodes id n bits v are is full =
    let h = node_facts places nodes id n are is in
    let bit : slice_index_or (set bits n.place v) n.place false ≡ v =
    get_or-set_same bits n.place v false (omega (arith, h.within)) in
    let rises : n.place < place_of places nodes (if v then n.high else n.low) =
    elim v as (λ b. n.place < place_of places nodes (if b then n.high else n.low))
    [ true ↦ h.high_rises | false ↦ h.low_rises ] in
    sym (holds_on-node places nodes id n (set bits n.place v) are is
    ∙ ap (λ b. holds_on nodes (if b then n.high else n.low) (set bits n.place v)) bit
    ∙ holds_on-set_before places nodes (if v then n.high else n.low) bits n.place v are rises)
