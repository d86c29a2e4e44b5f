-- The set's list of nodes, the oldest first, against the nodes of a graph, the newest first.
use Rattle.std.proofs.Common.{◌≡◌, ◌≢◌, refl, sym, ap, subst, ◌∙◌, ℕ, zero, suc, ◌+◌, ◌<◌, ◌≤◌, Bool, true, false, List, [], ◌∷◌, ◌++◌, length, Some, None, if◌then◌else◌, inl, inr, ◌⊎◌, arith, slice_get, reverse, true≢false, ne_eqb}
use Rattle.std.proofs.lemmas.Bool.{cases_Bool, or_right, or_left}
use Rattle.std.proofs.lemmas.List.{reverse-append}
use Rattle.std.specs.List.{list_any, AllByRecursion}
use mathlib.Core.List.{reverse_aux}
use Rattle.indexmap.specs.IndexSet.{insert_key}
use Rattle.core_nodes.specs.Nodes.{kind_at, children, AreNodes}
use Rattle.core_nodes.specs.Made.{Keeps, IsMade}
use Rattle.core_nodes.specs.declared.node.NodeKind.{NodeKind}
use Rattle.core_nodes.specs.contracts.node.NodeKindEq.TheImpl.Laws as law
use Rattle.core_nodes.proofs.SameKinds.{same_kind, kinds_tell}
use Rattle.core_nodes.proofs.Places.{Before, IsGrown, kind_newest, kind_older, is_at, is_made, keeps_grown}

-- no place past the newest has a node
kind_past : (nodes : List NodeKind) (p : ℕ) → length nodes ≤ p → kind_at nodes p ≡ None
unfolding kind_at
kind_past [] p past = refl
kind_past (k ∷ older) p past = rw (ne_eqb p (length older) (λ e. omega arith)) (kind_past older p (omega arith))

reverse_below : (ks older : List NodeKind) (p : ℕ) → p < length older → kind_at (reverse_aux ks older) p ≡ kind_at older p
reverse_below [] older p below = refl
reverse_below (k ∷ ks) older p below = reverse_below ks (k ∷ older) p (omega arith) ∙ kind_older k older p below

reverse_onto : (ks older : List NodeKind) (i : ℕ) → kind_at (reverse_aux ks older) (length older + i) ≡ slice_get ks i
reverse_onto [] older i = kind_past older (length older + i) (omega arith)
reverse_onto (k ∷ ks) older zero =
    let e : length older + 0 ≡ length older = omega arith in
    ap (λ j. kind_at (reverse_aux ks (k ∷ older)) j) e ∙ reverse_below ks (k ∷ older) (length older) (omega arith) ∙ kind_newest k older
reverse_onto (k ∷ ks) older (suc i) =
    let e : length older + suc i ≡ length (k ∷ older) + i = omega arith in
    ap (λ j. kind_at (reverse_aux ks (k ∷ older)) j) e ∙ reverse_onto ks (k ∷ older) i

-- the place of a node is its index
pub kind_reverse : (ks : List NodeKind) (i : ℕ) → kind_at (reverse ks) i ≡ slice_get ks i
kind_reverse ks i =
    let f : i ≡ 0 + i = omega arith in
    ap (λ j. kind_at (reverse ks) j) f ∙ reverse_onto ks [] i

-- a node that is at an index is found
any_there : (ks : List NodeKind) (i : ℕ) (k : NodeKind) → slice_get ks i ≡ Some k → list_any (same_kind k) ks ≡ true
any_there [] i k is = absurd (cc)
any_there (l ∷ ks) zero k is =
    let same : l ≡ k = cc in
    or_left (same_kind k l) (list_any (same_kind k) ks) (subst (λ m. same_kind k m ≡ true) (sym same) (law.laws-law.refl k))
any_there (l ∷ ks) (suc i) k is = or_right (same_kind k l) (list_any (same_kind k) ks) (any_there ks i k is)

-- so a node that is not found stands nowhere
once_from : (ks : List NodeKind) (k : NodeKind) → list_any (same_kind k) ks ≡ false → (p : ℕ) → kind_at (reverse ks) p ≢ Some k
once_from ks k absent p is = true≢false (sym (any_there ks p k (sym (kind_reverse ks p) ∙ is)) ∙ absent)

insert_by : (b : Bool) (ks : List NodeKind) (k : NodeKind) → list_any (same_kind k) ks ≡ b → insert_key same_kind ks k ≡ (if b then ks else ks ++ k ∷ [])
insert_by b ks k e = ap (λ v. if v then ks else ks ++ k ∷ []) e

-- a node whose children stand is inserted: the graph keeps its facts
pub nodes_insert : (ks : List NodeKind) (k : NodeKind) → AreNodes (reverse ks) → Before (reverse ks) k → AreNodes (reverse (insert_key same_kind ks k))
unfolding AreNodes
nodes_insert ks k are before =
    elim (cases_Bool (list_any (same_kind k) ks)) [
      | inl e ↦ subst (λ l. AreNodes (reverse l)) (sym (insert_by true ks k e)) are
      | inr e ↦
          let more : AreNodes (k ∷ reverse ks) = (record { before = before; once = once_from ks k e }, are) in
          subst (λ l. AreNodes (reverse l)) (sym (insert_by false ks k e)) (subst (λ l. AreNodes l) (sym (reverse-append ks (k ∷ []))) more)
    ]

-- and is as before or one node longer
pub grown_insert : (ks : List NodeKind) (k : NodeKind) → IsGrown (reverse ks) (reverse (insert_key same_kind ks k)) k
grown_insert ks k =
    elim (cases_Bool (list_any (same_kind k) ks)) [
      | inl e ↦ inl (ap (λ l. reverse l) (insert_by true ks k e))
      | inr e ↦ inr (ap (λ l. reverse l) (insert_by false ks k e) ∙ reverse-append ks (k ∷ []))
    ]

-- a node was put into a graph: one stands at the index that the set takes for it
pub record IsPut (ks now : List NodeKind) (k : NodeKind) (i : ℕ) : Type 0 where
  pub facts : AreNodes (reverse ks)
  pub before : Before (reverse ks) k
  pub keys : now ≡ insert_key same_kind ks k
  pub stored : NodeKind
  pub there : slice_get now i ≡ Some stored
  pub same : same_kind k stored ≡ true

-- so it is made
pub put_made : (ks now : List NodeKind) (k : NodeKind) (i : ℕ) → IsPut ks now k i → IsMade (reverse ks) (reverse now) k i
put_made ks now k i h =
    let grown = subst (λ m. IsGrown (reverse ks) (reverse m) k) (sym h.keys) (grown_insert ks k) in
    let nodes = subst (λ m. AreNodes (reverse m)) (sym h.keys) (nodes_insert ks k h.facts h.before) in
    let at : kind_at (reverse now) i ≡ Some k = kind_reverse now i ∙ h.there ∙ ap (λ m. Some m) (sym (kinds_tell k h.stored h.same)) in
    is_made (reverse ks) (reverse now) k i h.before grown nodes (is_at (reverse now) i k nodes at)

pub put_keeps : (ks now : List NodeKind) (k : NodeKind) → now ≡ insert_key same_kind ks k → Keeps (reverse ks) (reverse now)
put_keeps ks now k keys =
    keeps_grown (reverse ks) (reverse now) k (subst (λ m. IsGrown (reverse ks) (reverse m) k) (sym keys) (grown_insert ks k))
