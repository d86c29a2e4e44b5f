-- What a fold makes of a node is what it makes of it from its children.
use Rattle.std.proofs.Common.{◌≡◌, refl, sym, ap, subst, ◌∙◌, ℕ, ◌+◌, ◌<◌, Bool, true, false, List, [], ◌∷◌, ◌++◌, length, Option, Some, None, ◌==◌, inl, inr, arith, eq-eqb, ne_eqb}
use Rattle.std.proofs.lemmas.Bool.Decides.{eqb_tells}
use Rattle.std.specs.List.{AllByRecursion}
use Rattle.core_nodes.specs.Nodes.{kind_at, children, FitsOn, AreNodes}
use Rattle.core_nodes.specs.Made.{IsAt}
use Rattle.core_nodes.specs.declared.node.NodeKind.{NodeKind}
use Rattle.core_nodes.specs.declared.node.NodeKind.TheVariants.{Test, Do, Stop}
use Rattle.core_nodes.proofs.Places.{kind_newest, all_wider}
use Rattle.policy_core.specs.Fold.{fold_at}

-- what is made of a node depends on its children alone
pub record IsLocal {A : Type 0} (make : (ℕ → A) → NodeKind → A) : Type 0 where
  pub local : (f g : ℕ → A) (k : NodeKind) → AllByRecursion (λ p. f p ≡ g p) (children k) → make f k ≡ make g k

module _ {A : Type 0} (none : A) (make : (ℕ → A) → NodeKind → A) where
  pub fold_newest : (k : NodeKind) (older : List NodeKind) → fold_at none make (k ∷ older) (length older) ≡ make (fold_at none make older) k
  unfolding fold_at
  fold_newest k older = rw (eq-eqb (length older) (length older) refl, fold_at) refl

  pub fold_other : (k : NodeKind) (older : List NodeKind) (p : ℕ) → (p ≡ length older → ⊥) → fold_at none make (k ∷ older) p ≡ fold_at none make older p
  unfolding fold_at
  fold_other k older p differ = rw (ne_eqb p (length older) differ, fold_at) refl

  pub fold_older : (k : NodeKind) (older : List NodeKind) (p : ℕ) → p < length older → fold_at none make (k ∷ older) p ≡ fold_at none make older p
  fold_older k older p below = fold_other k older p (λ e. omega (arith, e, below))

Some-same : (k l : NodeKind) → Some k ≡ Some l → k ≡ l
Some-same k l e = cc

children_within : (nodes : List NodeKind) (p : ℕ) (k : NodeKind) → AreNodes nodes → kind_at nodes p ≡ Some k → AllByRecursion (λ c. c < length nodes) (children k)
unfolding kind_at AreNodes
children_within [] p k are is = absurd (cc)
children_within (m ∷ older) p k are is =
    elim (eqb_tells p (length older)) [
      | inl w ↦
          let same : m ≡ k = Some-same m k (sym (kind_newest m older) ∙ subst (λ i. kind_at (m ∷ older) i ≡ Some k) w.1 is) in
          subst (λ l. AllByRecursion (λ c. c < length (m ∷ older)) (children l)) same
          (all_wider (λ c. c < length older) (λ c. c < length (m ∷ older)) (children m) (λ c below. omega (arith, below)) are.0.before)
      | inr w ↦
          let found : kind_at older p ≡ Some k = sym (rw (ne_eqb p (length older) w.1) refl) ∙ is in
          all_wider (λ c. c < length older) (λ c. c < length (m ∷ older)) (children k) (λ c below. omega (arith, below)) (children_within older p k are.1 found)
    ]

module _ {A : Type 0} (none : A) (make : (ℕ → A) → NodeKind → A) (l : IsLocal make) where
  -- a newer node changes nothing for what leads to older ones
  make_older : (m : NodeKind) (older : List NodeKind) (k : NodeKind) → AllByRecursion (λ p. p < length older) (children k) → make (fold_at none make older) k ≡ make (fold_at none make (m ∷ older)) k
  make_older m older k before =
      l.local (fold_at none make older) (fold_at none make (m ∷ older)) k
      (all_wider (λ p. p < length older) (λ p. fold_at none make older p ≡ fold_at none make (m ∷ older) p) (children k) (λ p below. sym (fold_older none make m older p below)) before)

  pub unrolls : (nodes : List NodeKind) (p : ℕ) (k : NodeKind) → AreNodes nodes → kind_at nodes p ≡ Some k → fold_at none make nodes p ≡ make (fold_at none make nodes) k
  unfolding kind_at AreNodes
  unrolls [] p k are is = absurd (cc)
  unrolls (m ∷ older) p k are is =
      elim (eqb_tells p (length older)) [
        | inl w ↦
            let same : m ≡ k = Some-same m k (sym (kind_newest m older) ∙ subst (λ i. kind_at (m ∷ older) i ≡ Some k) w.1 is) in
            ap (λ i. fold_at none make (m ∷ older) i) w.1
            ∙ fold_newest none make m older
            ∙ make_older m older m are.0.before
            ∙ ap (λ n. make (fold_at none make (m ∷ older)) n) same
        | inr w ↦
            let found : kind_at older p ≡ Some k = sym (rw (ne_eqb p (length older) w.1) refl) ∙ is in
            fold_other none make m older p w.1 ∙ unrolls older p k are.1 found ∙ make_older m older k (children_within older p k are.1 found)
      ]

longer : (more old : List NodeKind) (p : ℕ) → p < length old → p < length (more ++ old)
longer [] old p below = below
longer (k ∷ more) old p below = omega (arith, longer more old p below)

-- newer nodes leave what is made of the older ones
pub fold_grown : {A : Type 0} (none : A) (make : (ℕ → A) → NodeKind → A) (more old : List NodeKind) (p : ℕ) → p < length old → fold_at none make (more ++ old) p ≡ fold_at none make old p
fold_grown none make [] old p below = refl
fold_grown none make (k ∷ more) old p below = fold_older none make k (more ++ old) p (longer more old p below) ∙ fold_grown none make more old p below

-- ---- a node that stands at a place of a graph

pub record Stands (nodes : List NodeKind) (p : ℕ) (k : NodeKind) : Type 0 where
  pub facts : AreNodes nodes
  pub there : kind_at nodes p ≡ Some k
