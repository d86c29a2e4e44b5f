-- Which node an Id names, and what is known of each node of a store.
use Rattle.std.proofs.Common.{◌≡◌, ◌≢◌, ℕ, ◌<◌, ◌≤◌, List, [], ◌∷◌, ◌++◌, Some, None, option_map, unwrap_or, refl, sym, ap, subst, ◌∙◌, inl, inr, eq-eqb, ne_eqb, arith, length-append}
use Rattle.std.proofs.lemmas.Bool.Decides.{eqb_tells}
use Rattle.bit_diagrams.specs.declared.parts.Node.{Node}
use Rattle.bit_diagrams.specs.Store.{ids, node_at, place_of, FitsOn, AreNodes}

-- the newest node has the highest Id
pub node_at-newest : (n : Node) (older : List Node) → node_at (n ∷ older) (ids older) ≡ Some n
unfolding node_at
node_at-newest n older = rw (eq-eqb (ids older) (ids older) refl) refl

-- a further node leaves the Ids of the older ones
pub node_at-older : (n : Node) (older : List Node) (id : ℕ) → id < ids older
    → node_at (n ∷ older) id ≡ node_at older id
unfolding node_at
node_at-older n older id below = rw (ne_eqb id (ids older) (λ e. omega arith)) refl

-- so do further nodes
pub node_at-append : (added older : List Node) (id : ℕ) → id < ids older
    → node_at (added ++ older) id ≡ node_at older id
node_at-append [] older id below = refl
node_at-append (n ∷ added) older id below =
    node_at-older n (added ++ older) id (omega (arith, length-append added older))
    ∙ node_at-append added older id below

-- an Id that names a node is not a constant's
pub node_at-constant : (nodes : List Node) (id : ℕ) → id < 2 → node_at nodes id ≡ None
unfolding node_at
node_at-constant [] id below = refl
node_at-constant (n ∷ older) id below = node_at-older n older id (omega arith)
    ∙ node_at-constant older id below

-- every other Id of the store names a node
pub node_at-there : (nodes : List Node) (id : ℕ) → 2 ≤ id → id < ids nodes → (n : Node)
    × (node_at nodes id ≡ Some n)
node_at-there [] id least below = absurd (omega arith)
node_at-there (m ∷ older) id least below =
    elim (eqb_tells id (ids older)) [
      | inl w ↦ (m, subst (λ i. node_at (m ∷ older) i ≡ Some m) (sym w.1) (node_at-newest m older))
      | inr w ↦
          let before : id < ids older = omega (arith, w.1) in
          let rest = node_at-there older id least before in
          (rest.0, node_at-older m older id before ∙ rest.1)
    ]

-- the place of a node's Id is the node's
pub place_of-node : (places : ℕ) (nodes : List Node) (id : ℕ) (n : Node) → node_at nodes id ≡ Some n
    → place_of places nodes id ≡ n.place
unfolding place_of
place_of-node places nodes id n is = ap (λ o. unwrap_or (option_map (λ m. m.place) o) places) is

-- that of a constant is the number of places
pub place_of-constant : (places : ℕ) (nodes : List Node) (id : ℕ) → id < 2
    → place_of places nodes id ≡ places
unfolding place_of
place_of-constant places nodes id below = ap (λ o. unwrap_or (option_map (λ m. m.place) o) places)
    (node_at-constant nodes id below)

-- further nodes leave the places of the older ones
pub place_of-append : (places : ℕ) (added older : List Node) (id : ℕ) → id < ids older
    → place_of places (added ++ older) id ≡ place_of places older id
unfolding place_of
place_of-append places added older id below = ap
    (λ o. unwrap_or (option_map (λ m. m.place) o) places) (node_at-append added older id below)

-- what is known of the node that an Id names
pub record IsNodeOf (places : ℕ) (nodes : List Node) (id : ℕ) (n : Node) : Type 0 where
  pub within : n.place < places
  pub least : 2 ≤ id
  pub below : id < ids nodes
  pub low_before : n.low < id
  pub high_before : n.high < id
  pub low_rises : n.place < place_of places nodes n.low
  pub high_rises : n.place < place_of places nodes n.high
  pub differ : n.low ≢ n.high

-- it stays known under a further node
IsNodeOf-older : (places : ℕ) (m : Node) (older : List Node) (id : ℕ) (n : Node)
    → IsNodeOf places older id n → IsNodeOf places (m ∷ older) id n
IsNodeOf-older places m older id n h = record {
  within = h.within;
  least = h.least;
  below = omega (arith, h.below);
  low_before = h.low_before;
  high_before = h.high_before;
  low_rises = rw (place_of-append places (m ∷ []) older n.low
      (omega (arith, h.low_before, h.below))) h.low_rises;
  high_rises = rw (place_of-append places (m ∷ []) older n.high
      (omega (arith, h.high_before, h.below))) h.high_rises;
  differ = h.differ;
}

-- the newest node is known by its fit
IsNodeOf-newest : (places : ℕ) (m : Node) (older : List Node) → FitsOn places older m
    → IsNodeOf places (m ∷ older) (ids older) m
IsNodeOf-newest places m older h = record {
  within = h.within;
  least = omega arith;
  below = omega arith;
  low_before = h.low_before;
  high_before = h.high_before;
  low_rises = rw (place_of-append places (m ∷ []) older m.low h.low_before) h.low_rises;
  high_rises = rw (place_of-append places (m ∷ []) older m.high h.high_before) h.high_rises;
  differ = h.differ;
}

Some-same : (m n : Node) → Some m ≡ Some n → m ≡ n
Some-same m n e = cc

-- each Id that names a node names one of which this is known
pub node_facts : (places : ℕ) (nodes : List Node) (id : ℕ) (n : Node) → AreNodes places nodes
    → node_at nodes id ≡ Some n → IsNodeOf places nodes id n
unfolding node_at AreNodes
node_facts places [] id n are is = absurd (cc)
node_facts places (m ∷ older) id n are is =
    elim (eqb_tells id (ids older)) [
      | inl w ↦
          let same : m ≡ n =
          Some-same m n (sym (node_at-newest m older)
          ∙ subst (λ i. node_at (m ∷ older) i ≡ Some n) w.1 is) in
          subst (λ k. IsNodeOf places (m ∷ older) id k) same
          (subst (λ i. IsNodeOf places (m ∷ older) i m) (sym w.1) (IsNodeOf-newest places m older are.0))
      | inr w ↦
          let found : node_at older id ≡ Some n = sym (rw (ne_eqb id (ids older) w.1) refl) ∙ is in
          IsNodeOf-older places m older id n (node_facts places older id n are.1 found)
    ]

-- an Id that names a node is of the store
pub node_at-below : (nodes : List Node) (id : ℕ) (n : Node) → node_at nodes id ≡ Some n → id < ids nodes
unfolding node_at
node_at-below [] id n is = absurd (cc)
node_at-below (m ∷ older) id n is =
    elim (eqb_tells id (ids older)) [
      | inl w ↦ omega (arith, w.1)
      | inr w ↦
          let found : node_at older id ≡ Some n = sym (rw (ne_eqb id (ids older) w.1) refl) ∙ is in
          omega (arith, node_at-below older id n found)
    ]

-- two Ids do not name one node
pub node_at-once : (places : ℕ) (nodes : List Node) (i j : ℕ) (n : Node) → AreNodes places nodes
    → node_at nodes i ≡ Some n → node_at nodes j ≡ Some n → i ≡ j
unfolding node_at AreNodes
node_at-once places [] i j n are at_i at_j = absurd (cc)
node_at-once places (m ∷ older) i j n are at_i at_j =
    elim (eqb_tells i (ids older)) [
      | inl w ↦ elim (eqb_tells j (ids older)) [
        | inl v ↦ w.1 ∙ sym v.1
        | inr v ↦
            let same : m ≡ n =
            Some-same m n (sym (node_at-newest m older)
            ∙ subst (λ k. node_at (m ∷ older) k ≡ Some n) w.1 at_i) in
            let found : node_at older j ≡ Some n = sym (rw (ne_eqb j (ids older) v.1) refl) ∙ at_j in
            absurd (are.0.once j (found ∙ ap (λ k. Some k) (sym same)))
      ]
      | inr w ↦
          let found_i : node_at older i ≡ Some n = sym (rw (ne_eqb i (ids older) w.1) refl) ∙ at_i in
          elim (eqb_tells j (ids older)) [
            | inl v ↦
                let same : m ≡ n =
                Some-same m n (sym (node_at-newest m older)
                ∙ subst (λ k. node_at (m ∷ older) k ≡ Some n) v.1 at_j) in
                absurd (are.0.once i (found_i ∙ ap (λ k. Some k) (sym same)))
            | inr v ↦
                let found_j : node_at older j ≡ Some n =
                sym (rw (ne_eqb j (ids older) v.1) refl) ∙ at_j in
                node_at-once places older i j n are.1 found_i found_j
          ]
    ]

-- the older nodes of a store are a store's
pub AreNodes-older : (places : ℕ) (added older : List Node) → AreNodes places (added ++ older)
    → AreNodes places older
unfolding AreNodes
AreNodes-older places [] older are = are
AreNodes-older places (n ∷ added) older are = AreNodes-older places added older are.1
