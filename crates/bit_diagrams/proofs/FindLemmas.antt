-- The way down from an Id to true, and the bits that it writes.
use Rattle.std.proofs.Common.{◌≡◌, ◌≢◌, ℕ, zero, suc, ◌<◌, Bool, true, false, not, List, length, Some, None, if◌then◌else◌, ◌==◌, refl, sym, ap, ◌∙◌, inl, inr, arith, slice_index_or, set, get_or-set_other, get_or-set_same, eq-eqb, ne_eqb}
use Rattle.std.proofs.lemmas.Bool.{cases_eq}
use Rattle.bit_diagrams.specs.declared.parts.Node.{Node}
use Rattle.bit_diagrams.specs.Store.{Store, ids, IsIdOf, IsStore, node_at, place_of}
use Rattle.bit_diagrams.specs.Meaning.{holds, child_on}
use Rattle.bit_diagrams.proofs.NodeLemmas.{IsNodeOf, node_facts, node_at-there, place_of-node}
use Rattle.bit_diagrams.proofs.HoldsLemmas.{at_child, holds_on-node, holds_on-true}

-- two lists agree before a place
abbrev pub AgreeBefore : ℕ → List Bool → List Bool → Type 0
AgreeBefore place a b = (k : ℕ) → k < place → slice_index_or a k false ≡ slice_index_or b k false

-- an Id that the way has come to: on bits that begin as those written, the first Id holds where it does
pub record IsOnWay (s : Store) (id at : ℕ) (values : List Bool) : Type 0 where
  pub of_store : IsIdOf s at
  pub alive : at ≢ 0
  pub way : (bits : List Bool) → AgreeBefore (place_of s.places s.nodes at) bits values
      → holds s id bits ≡ holds s at bits

pub way_starts : (s : Store) (id : ℕ) (values : List Bool) → IsIdOf s id → id ≢ 0
    → IsOnWay s id id values
way_starts s id values of alive = record { of_store = of; alive = alive; way = λ bits agree. refl }

-- the way goes to a child that is not false
child_alive : (n : Node) (bits : List Bool) → n.low ≢ n.high
    → slice_index_or bits n.place false ≡ not (n.high == 0) → child_on n bits ≢ 0
child_alive n bits differ bit =
    elim (cases_eq n.high 0) [
      | inl e ↦ λ z.
          let off : slice_index_or bits n.place false ≡ false =
          bit ∙ ap (λ b. not b) (eq-eqb n.high 0 e) in
          let low : child_on n bits ≡ n.low = ap (λ b. if b then n.high else n.low) off in
          differ (sym low ∙ z ∙ sym e)
      | inr e ↦ λ z.
          let on : slice_index_or bits n.place false ≡ true =
          bit ∙ ap (λ b. not b) (ne_eqb n.high 0 e) in
          let high : child_on n bits ≡ n.high = ap (λ b. if b then n.high else n.low) on in
          e (sym high ∙ z)
    ]

child_rises : (s : Store) (at : ℕ) (n : Node) (bits : List Bool) → IsNodeOf s.places s.nodes at n
    → n.place < place_of s.places s.nodes (child_on n bits)
child_rises s at n bits h = at_child (λ i. n.place < place_of s.places s.nodes i)
    n bits h.low_rises h.high_rises

pub child_less : (s : Store) (at : ℕ) (n : Node) (bits : List Bool) → IsStore s
    → node_at s.nodes at ≡ Some n → child_on n bits < at
child_less s at n bits are is =
    let h = node_facts s.places s.nodes at n are is in
    at_child (λ i. i < at) n bits h.low_before h.high_before

-- a step of the way
pub way_steps : (s : Store) (id at : ℕ) (n : Node) (values : List Bool) → IsStore s
    → node_at s.nodes at ≡ Some n → length values ≡ s.places → IsOnWay s id at values
    → IsOnWay s id (child_on n (set values n.place (not (n.high == 0))))
    (set values n.place (not (n.high == 0)))
way_steps s id at n values are is full h =
    let v = not (n.high == 0) in
    let next = set values n.place v in
    let f = node_facts s.places s.nodes at n are is in
    let bit : slice_index_or next n.place false ≡ v =
    get_or-set_same values n.place v false (omega (arith, f.within, full)) in
    let rises : n.place < place_of s.places s.nodes (child_on n next) = child_rises s at n next f in
    record {
      of_store = omega (arith, child_less s at n next are is, f.below);
      alive = child_alive n next f.differ bit;
      way = λ bits agree.
          let before : AgreeBefore (place_of s.places s.nodes at) bits values =
          λ k lt. agree k (omega (arith, lt, rises, place_of-node s.places s.nodes at n is))
          ∙ get_or-set_other values n.place k v false
          (λ e. omega (arith, e, lt, place_of-node s.places s.nodes at n is)) in
          let same : slice_index_or bits n.place false ≡ slice_index_or next n.place false =
          agree n.place rises in
          h.way bits before
          ∙ holds_on-node s.places s.nodes at n bits are is
          ∙ ap (λ b. holds s (if b then n.high else n.low) bits) same;
    }

one_from_end : (s : Store) (at : ℕ) (bits : List Bool) → node_at s.nodes at ≡ None
    → at < ids s.nodes → at ≢ 0 → holds s at bits ≡ true
one_from_end s zero bits none of alive = absurd (alive refl)
one_from_end s (suc zero) bits none of alive = holds_on-true s.nodes bits
one_from_end s (suc (suc at)) bits none of alive =
    let there = node_at-there s.nodes (suc (suc at)) (omega arith) of in
    let clash : Some there.0 ≡ None = sym there.1 ∙ none in
    absurd (cc)

-- the way ends at true
pub way_ends : (s : Store) (id at : ℕ) (values : List Bool) → node_at s.nodes at ≡ None
    → IsOnWay s id at values → holds s id values ≡ true
way_ends s id at values none h =
    h.way values (λ k lt. refl) ∙ one_from_end s at values none h.of_store h.alive
