-- No guard's condition has a parenthesis within another.
use Rattle.std.proofs.Common.{◌≡◌, refl, sym, ap, ◌∙◌, ℕ, ◌+◌, ◌≤◌, false, ◌||◌, List, [], ◌∷◌, ◌++◌, append_assoc, append-nil, arith}
use Rattle.std.specs.Prelude.{nat_le, max}
use Rattle.std.specs.List.{AllByRecursion}
use Rattle.std.proofs.lemmas.Bool.{false_from_ne_true}
use Rattle.std.proofs.lemmas.Bool.Decides.{nat_tests}
use Rattle.rpl_words.specs.Conditions.{Condition, Asks, Grouped, Negated, Both, Either, terms_of}
use Rattle.rpl_words.specs.declared.condition.Term.{Term}
use Rattle.rpl_words.specs.declared.condition.Term.TheVariants.{Group, Not, And, Or}
use Rattle.rpl_reader.specs.Depth.{has_deep_group}
use Rattle.rpl_plans.specs.declared.choice.PlannedTerm.{PlannedTerm}
use Rattle.rpl_plans.specs.declared.choice.PlannedTerms.{PlannedTerms}
use Rattle.rpl_plans.specs.declared.step.PlannedLiteral.{PlannedLiteral}
use Rattle.rpl_plans.specs.declared.test.PlannedTest.{PlannedTest}
use Rattle.rpl_layout.specs.Guards.{Writing, guard_condition}
use Rattle.rpl_layout.specs.Tests.{EachOfTerm, EachOfTerms}
use Rattle.rpl_layout.proofs.Asked.{Keeps, guard_deep}

-- how deep the parentheses of a condition are nested
levels : Condition → ℕ
levels (Asks t) = 0
levels (Grouped c) = levels c + 1
levels (Negated c) = levels c
levels (Both c d) = max (levels d) (levels c)
levels (Either c d) = max (levels d) (levels c)

not_beyond : (n : ℕ) → n + 1 ≤ 128 → nat_le 128 n ≡ false
not_beyond n h = false_from_ne_true (nat_le 128 n) (λ e. grind (arith, nat_tests))

left_small : (a b : ℕ) → max a b ≤ 128 → a ≤ 128
left_small a b h = omega arith

right_small : (a b : ℕ) → max a b ≤ 128 → b ≤ 128
right_small a b h = omega arith

deep_behind : (c : Condition) (depths : List ℕ) (ts : List Term) → levels c ≤ 128 → has_deep_group depths (terms_of c ++ ts) ≡ has_deep_group (levels c ∷ depths) ts
unfolding levels terms_of has_deep_group
deep_behind (Asks t) depths ts h = refl
deep_behind (Grouped c) depths ts h =
    ap (λ (us : List Term). has_deep_group depths us) (append_assoc (terms_of c) (Group ∷ []) ts)
    ∙ deep_behind c depths (Group ∷ ts) (omega arith)
    ∙ ap (λ b. b || has_deep_group ((levels c + 1) ∷ depths) ts) (not_beyond (levels c) h)
deep_behind (Negated c) depths ts h =
    ap (λ (us : List Term). has_deep_group depths us) (append_assoc (terms_of c) (Not ∷ []) ts)
    ∙ deep_behind c depths (Not ∷ ts) h
deep_behind (Both c d) depths ts h =
    ap (λ (us : List Term). has_deep_group depths us) (append_assoc (terms_of c) (terms_of d ++ (And ∷ [])) ts ∙ ap (λ (us : List Term). terms_of c ++ us) (append_assoc (terms_of d) (And ∷ []) ts))
    ∙ deep_behind c depths (terms_of d ++ (And ∷ ts)) (right_small (levels d) (levels c) h)
    ∙ deep_behind d (levels c ∷ depths) (And ∷ ts) (left_small (levels d) (levels c) h)
deep_behind (Either c d) depths ts h =
    ap (λ (us : List Term). has_deep_group depths us) (append_assoc (terms_of c) (terms_of d ++ (Or ∷ [])) ts ∙ ap (λ (us : List Term). terms_of c ++ us) (append_assoc (terms_of d) (Or ∷ []) ts))
    ∙ deep_behind c depths (terms_of d ++ (Or ∷ ts)) (right_small (levels d) (levels c) h)
    ∙ deep_behind d (levels c ∷ depths) (Or ∷ ts) (left_small (levels d) (levels c) h)

Flat : Condition → Type 0
Flat c = levels c ≤ 0

Low : Condition → Type 0
Low c = levels c ≤ 1

low_keeps : Keeps Flat Low
unfolding Flat Low levels
low_keeps = record {
  negated = λ c h. h;
  both = λ c d h k. omega (arith, h, k);
  either = λ c d h k. omega (arith, h, k);
  grouped = λ c h. omega (arith, h);
  flat = λ c h. omega (arith, h);
  negated_deep = λ c h. h;
  both_deep = λ c d h k. omega (arith, h, k);
}

module _ (written : Writing) where
  any_test : (ts : List PlannedTest) → AllByRecursion (λ t. Flat (Asks (written t))) ts
  unfolding Flat levels
  any_test [] = tt
  any_test (t ∷ ts) = (omega arith, any_test ts)

  any_term : (ts : List PlannedTerm) → AllByRecursion (EachOfTerm (λ t. Flat (Asks (written t)))) ts
  unfolding Flat levels
  any_term [] = tt
  any_term (t ∷ ts) = ((any_test t.denied, omega arith), any_term ts)

  any_terms : (ts : PlannedTerms) → EachOfTerms (λ t. Flat (Asks (written t))) ts
  unfolding Flat levels
  any_terms ts = ((any_test ts.first.denied, omega arith), any_term ts.others)

  any_literal : (ls : List PlannedLiteral) → AllByRecursion (λ m. EachOfTerms (λ t. Flat (Asks (written t))) m.terms) ls
  any_literal [] = tt
  any_literal (l ∷ ls) = (any_terms l.terms, any_literal ls)

  guard_low : (l : PlannedLiteral) (ls : List PlannedLiteral) → Low (guard_condition written l ls)
  guard_low l ls = guard_deep Flat Low low_keeps written l ls (any_terms l.terms) (any_literal ls)

  -- no parenthesis of a guard's condition lies too deep
  pub guard_shallow : (l : PlannedLiteral) (ls : List PlannedLiteral) → has_deep_group [] (terms_of (guard_condition written l ls)) ≡ false
  unfolding Low has_deep_group
  guard_shallow l ls =
      let low : levels (guard_condition written l ls) ≤ 1 = guard_low l ls in
      ap (λ (us : List Term). has_deep_group [] us) (sym (append-nil (terms_of (guard_condition written l ls))))
      ∙ deep_behind (guard_condition written l ls) [] [] (omega (arith, low))
