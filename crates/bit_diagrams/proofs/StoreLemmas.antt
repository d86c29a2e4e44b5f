-- The store's list of nodes, the oldest first, against its nodes, the newest first.
use Rattle.std.proofs.Common.{◌≡◌, ◌≢◌, ℕ, zero, suc, ◌+◌, ◌-◌, ◌<◌, ◌≤◌, Bool, true, false, ◌&&◌, List, [], ◌∷◌, ◌++◌, length, Some, None, option_map, unwrap_or, if◌then◌else◌, ◌==◌, refl, sym, ap, subst, ◌∙◌, inl, inr, arith, slice_get, slice_index_or, reverse, take, drop, eq-eqb, ne_eqb, eqb-true, true≢false, length-append, take-append-drop, length-drop}
use Rattle.std.proofs.lemmas.Bool.{cases_Bool, cases_lt, and_parts, or_right, or_left}
use Rattle.std.proofs.lemmas.List.{reverse-append, length-reverse}
use Rattle.std.proofs.Math.Seq.{drop-append_seam}
use Rattle.std.specs.List.{list_any}
use mathlib.Core.List.{reverse_aux}
use Rattle.indexmap.specs.IndexSet.{insert_key}
use Rattle.bit_diagrams.specs.declared.parts.Node.{Node}
use Rattle.bit_diagrams.specs.Store.{Store, ids, node_at, place_of, FitsOn, AreNodes}
use Rattle.bit_diagrams.specs.Meaning.{holds_on, Keeps}
use Rattle.bit_diagrams.specs.Choice.{Grows, IsBranch}
use Rattle.bit_diagrams.proofs.NodeLemmas.{node_at-older, node_at-newest, node_at-below, node_at-constant, node_at-there, place_of-node, AreNodes-older}
use Rattle.bit_diagrams.proofs.HoldsLemmas.{holds_on-node, holds_on-append, holds_on-false, holds_on-true}

-- no Id past the newest names a node
node_at-past : (nodes : List Node) (id : ℕ) → ids nodes ≤ id → node_at nodes id ≡ None
unfolding node_at
node_at-past [] id past = refl
node_at-past (n ∷ older) id past = rw (ne_eqb id (ids older) (λ e. omega arith))
    (node_at-past older id (omega arith))

node_at-reverse_below : (ks older : List Node) (id : ℕ) → id < ids older
    → node_at (reverse_aux ks older) id ≡ node_at older id
node_at-reverse_below [] older id below = refl
node_at-reverse_below (k ∷ ks) older id below = node_at-reverse_below ks (k ∷ older) id
    (omega arith) ∙ node_at-older k older id below

node_at-reverse_onto : (ks older : List Node) (i : ℕ)
    → node_at (reverse_aux ks older) (ids older + i) ≡ slice_get ks i
node_at-reverse_onto [] older i = node_at-past older (ids older + i) (omega arith)
node_at-reverse_onto (k ∷ ks) older zero =
    let e : ids older + 0 ≡ ids older = omega arith in
    ap (λ j. node_at (reverse_aux ks (k ∷ older)) j) e
    ∙ node_at-reverse_below ks (k ∷ older) (ids older) (omega arith)
    ∙ node_at-newest k older
node_at-reverse_onto (k ∷ ks) older (suc i) =
    let e : ids older + suc i ≡ ids (k ∷ older) + i = omega arith in
    ap (λ j. node_at (reverse_aux ks (k ∷ older)) j) e ∙ node_at-reverse_onto ks (k ∷ older) i

-- the Id of the node at an index is two more
pub node_at-reverse : (ks : List Node) (i id : ℕ) → id ≡ i + 2 → node_at (reverse ks) id ≡ slice_get ks i
node_at-reverse ks i id e =
    let f : id ≡ 2 + i = omega arith in
    ap (λ j. node_at (reverse ks) j) f ∙ node_at-reverse_onto ks [] i

-- what the store does not name has the last place
pub place_of-none : (places : ℕ) (nodes : List Node) (id : ℕ) → node_at nodes id ≡ None
    → place_of places nodes id ≡ places
unfolding place_of
place_of-none places nodes id is = ap (λ o. unwrap_or (option_map (λ m. m.place) o) places) is

-- an Id of the store that names no node is a constant's, and holds where it is true
pub holds_on-end : (nodes : List Node) (id : ℕ) (bits : List Bool) → node_at nodes id ≡ None
    → id < ids nodes → holds_on nodes id bits ≡ (id == 1)
holds_on-end nodes zero bits is of = holds_on-false nodes bits
holds_on-end nodes (suc zero) bits is of = holds_on-true nodes bits
holds_on-end nodes (suc (suc id)) bits is of =
    let there = node_at-there nodes (suc (suc id)) (omega arith) of in
    let clash : Some there.0 ≡ None = sym there.1 ∙ is in
    absurd (cc)

-- whether two nodes are the same, as the set tests it
abbrev pub equal_nodes : Node → Node → Bool
equal_nodes a b = a.place == b.place && (a.low == b.low && a.high == b.high)

pub equal_nodes-true : (a b : Node) → equal_nodes a b ≡ true → a ≡ b
equal_nodes-true a b e =
    let first = and_parts (a.place == b.place) (a.low == b.low && a.high == b.high) e in
    let others = and_parts (a.low == b.low) (a.high == b.high) first.1 in
    let p = eqb-true a.place b.place first.0 in
    let l = eqb-true a.low b.low others.0 in
    let h = eqb-true a.high b.high others.1 in
    λ i. record { place = p i; low = l i; high = h i }

equal_nodes-refl : (a : Node) → equal_nodes a a ≡ true
equal_nodes-refl a = rw
    (eq-eqb a.place a.place refl, eq-eqb a.low a.low refl, eq-eqb a.high a.high refl) refl

-- a node that is at an index is found
list_any-there : (ks : List Node) (i : ℕ) (n : Node) → slice_get ks i ≡ Some n
    → list_any (equal_nodes n) ks ≡ true
list_any-there [] i n is = absurd (cc)
list_any-there (k ∷ ks) zero n is =
    let same : k ≡ n = cc in
    or_left (equal_nodes n k) (list_any (equal_nodes n) ks)
    (subst (λ m. equal_nodes n m ≡ true) (sym same) (equal_nodes-refl n))
list_any-there (k ∷ ks) (suc i) n is = or_right (equal_nodes n k) (list_any (equal_nodes n) ks)
    (list_any-there ks i n is)

-- so a node that is not found has no Id
once_from : (ks : List Node) (n : Node) → list_any (equal_nodes n) ks ≡ false → (id : ℕ)
    → node_at (reverse ks) id ≢ Some n
once_from ks n absent id is =
    elim (cases_lt id 2) [
      | inl w ↦
          let clash : None ≡ Some n = sym (node_at-constant (reverse ks) id w) ∙ is in
          absurd (cc)
      | inr w ↦
          let at : slice_get ks (id - 2) ≡ Some n =
          sym (node_at-reverse ks (id - 2) id (omega arith)) ∙ is in
          true≢false (sym (list_any-there ks (id - 2) n at) ∙ absent)
    ]

-- what a node owes before it is put into a store
pub record IsReady (places : ℕ) (older : List Node) (n : Node) : Type 0 where
  pub within : n.place < places
  pub low_before : n.low < ids older
  pub high_before : n.high < ids older
  pub low_rises : n.place < place_of places older n.low
  pub high_rises : n.place < place_of places older n.high
  pub differ : n.low ≢ n.high

insert_by : (b : Bool) (ks : List Node) (n : Node) → list_any (equal_nodes n) ks ≡ b
    → insert_key equal_nodes ks n ≡ (if b then ks else ks ++ n ∷ [])
insert_by b ks n e = ap (λ v. if v then ks else ks ++ n ∷ []) e

fits_on : (places : ℕ) (ks : List Node) (n : Node) → IsReady places (reverse ks) n
    → list_any (equal_nodes n) ks ≡ false → FitsOn places (reverse ks) n
fits_on places ks n h absent = record {
  within = h.within;
  low_before = h.low_before;
  high_before = h.high_before;
  low_rises = h.low_rises;
  high_rises = h.high_rises;
  differ = h.differ;
  once = once_from ks n absent;
}

-- a ready node that is inserted keeps the facts of the store
pub AreNodes-insert : (places : ℕ) (ks : List Node) (n : Node) → AreNodes places (reverse ks)
    → IsReady places (reverse ks) n → AreNodes places (reverse (insert_key equal_nodes ks n))
unfolding AreNodes
AreNodes-insert places ks n are h =
    elim (cases_Bool (list_any (equal_nodes n) ks)) [
      | inl e ↦ subst (λ l. AreNodes places (reverse l)) (sym (insert_by true ks n e)) are
      | inr e ↦
          let more : AreNodes places (n ∷ reverse ks) = (fits_on places ks n h e, are) in
          subst (λ l. AreNodes places (reverse l)) (sym (insert_by false ks n e))
          (subst (λ l. AreNodes places l) (sym (reverse-append ks (n ∷ []))) more)
    ]

-- and the store grows
pub grows_insert : (ks : List Node) (n : Node) → (added : List Node)
    × (reverse (insert_key equal_nodes ks n) ≡ added ++ reverse ks)
grows_insert ks n =
    elim (cases_Bool (list_any (equal_nodes n) ks)) [
      | inl e ↦ ([], ap (λ l. reverse l) (insert_by true ks n e))
      | inr e ↦ (n ∷ [], ap (λ l. reverse l) (insert_by false ks n e) ∙ reverse-append ks (n ∷ []))
    ]

-- the Id of a node stands for it
pub branch_at : (s : Store) (n : Node) (id : ℕ) → AreNodes s.places s.nodes
    → node_at s.nodes id ≡ Some n → IsBranch s n id
branch_at s n id are is = record {
  of_store = node_at-below s.nodes id n is;
  rises = omega (arith, place_of-node s.places s.nodes id n is);
  exact = λ bits. holds_on-node s.places s.nodes id n bits are is
      ∙ elim (slice_index_or bits n.place false) as
      (λ b. holds_on s.nodes (if b then n.high else n.low) bits
      ≡ (if b then holds_on s.nodes n.high bits else holds_on s.nodes n.low bits))
      [ true ↦ refl | false ↦ refl ];
}

-- the first nodes of a store, the newest first, are what is left without the others
pub reverse-take : (count : ℕ) (ks : List Node) → count ≤ length ks
    → reverse (take count ks) ≡ drop (length (reverse ks) - count) (reverse ks)
reverse-take count ks within =
    let whole : reverse ks ≡ reverse (drop count ks) ++ reverse (take count ks) =
    ap (λ l. reverse l) (sym (take-append-drop count ks))
    ∙ reverse-append (take count ks) (drop count ks) in
    let size : length (reverse ks) - count ≡ length (reverse (drop count ks)) =
    omega (arith, length-reverse ks, length-reverse (drop count ks), length-drop count ks) in
    sym (ap (λ n. drop n (reverse ks)) size
    ∙ ap (λ l. drop (length (reverse (drop count ks))) l) whole
    ∙ drop-append_seam (reverse (drop count ks)) (reverse (take count ks)))

-- and they keep the facts
pub AreNodes-take : (places count : ℕ) (ks : List Node) → AreNodes places (reverse ks)
    → AreNodes places (reverse (take count ks))
AreNodes-take places count ks are =
    AreNodes-older places (reverse (drop count ks)) (reverse (take count ks))
    (subst (λ l. AreNodes places l) (ap (λ l. reverse l) (sym (take-append-drop count ks))
    ∙ reverse-append (take count ks) (drop count ks)) are)

-- a store that grows keeps its Ids
pub keeps_grows : (old new : Store) → Grows old new → Keeps old new
keeps_grows old new g = record {
  places = g.places;
  of_store = λ id of. subst (λ l. id < ids l) (sym g.nodes.1)
      (omega (arith, length-append g.nodes.0 old.nodes));
  exact = λ id of bits. ap (λ l. holds_on l id bits) g.nodes.1
      ∙ holds_on-append g.nodes.0 old.nodes id bits of;
}
