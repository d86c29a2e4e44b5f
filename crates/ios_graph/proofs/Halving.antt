-- The node of the first entry of a number or above, found by halving.
use Rattle.std.proofs.Common.{◌≡◌, refl, sym, ap, ◌∙◌, ℕ, zero, suc, ◌-◌, ◌<◌, ◌≤◌, Bool, true, false, nat_le, List, [], ◌∷◌, ◌++◌, length, get_or, arith}
use Rattle.std.specs.List.{AllByRecursion}
use Rattle.std.specs.List.Sorted.{IsPartitionPoint}
use Rattle.std.proofs.lemmas.Bool.{le-leb, leb-true}
use Rattle.ios_graph.specs.Rows.{node_from, Falls}
use Rattle.ios_graph.specs.declared.rows.Target.{Target}

-- an entry that is put before all others counts, where its number is great enough
pub node_pushed : (n behind : ℕ) (ts : List Target) (t : Target) → node_from n behind (ts ++ t ∷ []) ≡ elim (nat_le n t.number) [ true ↦ t.node | false ↦ node_from n behind ts ]
node_pushed n behind [] t = refl
node_pushed n behind (u ∷ ts) t = node_pushed n (elim (nat_le n u.number) [ true ↦ u.node | false ↦ behind ]) ts t

-- ---- the place that halving finds

-- the entry at a place has the number or a greater one
abbrev pub Reaches : ℕ → List Target → Bool → ℕ → Type 0
Reaches n ts b k = (d : Target) → nat_le n (get_or ts k d).number ≡ b

positive : (i : ℕ) → (i ≡ 0 → ⊥) → 0 < i
positive zero none = absurd (none refl)
positive (suc i) none = omega arith

none_reaches : (n behind : ℕ) (ts : List Target) → ((k : ℕ) → k < length ts → Reaches n ts false k) → node_from n behind ts ≡ behind
none_reaches n behind [] h = refl
none_reaches n behind (t ∷ ts) h =
    ap (λ (b : Bool). node_from n (elim b [ true ↦ t.node | false ↦ behind ]) ts) (h 0 (omega arith) t)
    ∙ none_reaches n behind ts (λ k l. h (suc k) (omega (arith, l)))

-- all up to a place reach, and none behind
last_reaches : (n behind i : ℕ) (ts : List Target) (d : Target) → i < length ts → ((k : ℕ) → k ≤ i → Reaches n ts true k) → ((k : ℕ) → i < k → k < length ts → Reaches n ts false k) → node_from n behind ts ≡ (get_or ts i d).node
last_reaches n behind i [] d l before after = absurd (omega (arith, l))
last_reaches n behind zero (t ∷ ts) d l before after =
    ap (λ (b : Bool). node_from n (elim b [ true ↦ t.node | false ↦ behind ]) ts) (before 0 (omega arith) t)
    ∙ none_reaches n t.node ts (λ k m. after (suc k) (omega arith) (omega (arith, m)))
last_reaches n behind (suc i) (t ∷ ts) d l before after =
    last_reaches n (elim (nat_le n t.number) [ true ↦ t.node | false ↦ behind ]) i ts d (omega (arith, l)) (λ k m. before (suc k) (omega (arith, m))) (λ k m u. after (suc k) (omega (arith, m)) (omega (arith, u)))

module _ (n behind : ℕ) (ts : List Target) (i : ℕ) (point : IsPartitionPoint (λ t. nat_le n t.number ≡ true) (λ t. nat_le n t.number ≡ false) ts i) where
  -- the place is the first one: no entry reaches
  pub at_none : i ≡ 0 → behind ≡ node_from n behind ts
  at_none first = sym (none_reaches n behind ts (λ k l d. point.1 k d (omega (arith, first)) l))

  -- the place is behind some entry: that is the last one that reaches
  pub at_last : (i ≡ 0 → ⊥) → i ≤ length ts → (d : Target) → (get_or ts (i - 1) d).node ≡ node_from n behind ts
  at_last none l d =
      let later : 0 < i = positive i none in
      sym (last_reaches n behind (i - 1) ts d (omega (arith, later, l)) (λ k m x. point.0 k x (omega arith) (omega (arith, later, m))) (λ k m u x. point.1 k x (omega (arith, later, m)) u))

-- ---- numbers that fall

at_most : (n : ℕ) (ts : List Target) (k : ℕ) (d : Target) → AllByRecursion (λ t. t.number ≤ n) ts → k < length ts → (get_or ts k d).number ≤ n
at_most n [] k d h l = absurd (omega (arith, l))
at_most n (t ∷ ts) zero d h l = h.0
at_most n (t ∷ ts) (suc k) d h l = at_most n ts k d h.1 (omega (arith, l))

falls_at : (ts : List Target) (i j : ℕ) (d : Target) → Falls ts → i ≤ j → j < length ts → (get_or ts j d).number ≤ (get_or ts i d).number
falls_at [] i j d h l m = absurd (omega (arith, m))
falls_at (t ∷ ts) zero zero d h l m = omega arith
falls_at (t ∷ ts) zero (suc j) d h l m = at_most t.number ts j d h.0 (omega (arith, m))
falls_at (t ∷ ts) (suc i) zero d h l m = absurd (omega (arith, l))
falls_at (t ∷ ts) (suc i) (suc j) d h l m = falls_at ts i j d h.1 (omega (arith, l)) (omega (arith, m))

-- no entry that reaches comes behind one that doesn't
pub parted : (n : ℕ) (ts : List Target) → Falls ts → (i j : ℕ) (d : Target) → i ≤ j → j < length ts → nat_le n (get_or ts j d).number ≡ true → nat_le n (get_or ts i d).number ≡ true
parted n ts h i j d l m e =
    let a : n ≤ (get_or ts j d).number = leb-true n (get_or ts j d).number e in
    let b : (get_or ts j d).number ≤ (get_or ts i d).number = falls_at ts i j d h l m in
    le-leb n (get_or ts i d).number (omega (arith, a, b))

last_below : (t : Target) (ts : List Target) (u : Target) → AllByRecursion (λ x. x.number ≤ t.number) ts → u.number ≤ t.number → AllByRecursion (λ x. x.number ≤ t.number) (ts ++ u ∷ [])
last_below t [] u h l = (l, tt)
last_below t (x ∷ ts) u h l = (h.0, last_below t ts u h.1 l)

-- an entry of a number that none of the others falls below
pub falls_pushed : (ts : List Target) (u : Target) → Falls ts → AllByRecursion (λ t. u.number ≤ t.number) ts → Falls (ts ++ u ∷ [])
falls_pushed [] u h a = (tt, tt)
falls_pushed (t ∷ ts) u h a = (last_below t ts u h.0 a.0, falls_pushed ts u h.1 a.1)
