-- The definitions of steps are those of a plan.
use Rattle.std.proofs.Common.{◌≡◌, refl, sym, ap, ◌∙◌, ℕ, ◌+◌, ◌<◌, ◌^◌, List, [], ◌∷◌, ◌++◌, length, map, length-append, arith}
use Rattle.std.proofs.lemmas.List.{length-map}
use Rattle.junos_text.specs.declared.option.PolicyOption.{PolicyOption}
use Rattle.junos_plans.specs.declared.step.PlannedStep.{PlannedStep}
use Rattle.junos_layout.specs.Options.{defined_from, options_of, policy_of, subroutine_name}
use Rattle.junos_layout.specs.Terms.{subroutine_terms, step_terms}
use Rattle.junos_layout.specs.Uses.{HasFew}
use Rattle.junos_layout.specs.Writing.{Subroutine, OfList, Unless, AllOf, Writing}
use Rattle.junos_policies.specs.Options.{list_options, test_options, subroutine_options, options_by, path_option, community_option, FewOptions}
use Rattle.junos_policies.specs.Parts.{PartsList, definitions}
use Rattle.junos_policies.proofs.Every.{both, made_of}

-- ---- definitions of several sorts

behind : {D : Type 0} (define : ℕ → D → PolicyOption) (place : ℕ) (xs ys : List D) → defined_from define place (xs ++ ys) ≡ defined_from define place xs ++ defined_from define (place + length xs) ys
unfolding defined_from
behind define place [] ys = let same : place ≡ place + 0 = omega arith in ap (λ n. defined_from define n ys) same
behind define place (x ∷ xs) ys =
    let same : place + 1 + length xs ≡ place + length (x ∷ xs) = omega arith in
    ap (λ os. define place x ∷ os) (behind define (place + 1) xs ys ∙ ap (λ n. defined_from define (place + 1) xs ++ defined_from define n ys) same)

mapped : {A D : Type 0} (define : ℕ → D → PolicyOption) (f : A → D) (place : ℕ) (xs : List A) → defined_from define place (map f xs) ≡ defined_from (λ n x. define n (f x)) place xs
unfolding defined_from
mapped define f place [] = refl
mapped define f place (x ∷ xs) = ap (λ os. define place (f x) ∷ os) (mapped define f (place + 1) xs)

module _ (name : List ℕ) (p : PartsList) (w : Writing) where
  abbrev define : ℕ → Subroutine → PolicyOption
  define n s = policy_of (subroutine_name name n) (subroutine_terms w s)

  subroutines_are : defined_from define 0 (definitions p).subroutines ≡ subroutine_options name p w
  subroutines_are =
      let ls = map (λ l. OfList l) p.lists in
      let ts = map (λ t. Unless t) p.tests in
      let gs = map (λ g. AllOf g) p.guards in
      let first : 0 + length ls ≡ length p.lists = ap (λ n. 0 + n) (length-map p.lists (λ l. OfList l)) ∙ (omega arith) in
      let second : length p.lists + length ts ≡ length p.lists + length p.tests = ap (λ n. length p.lists + n) (length-map p.tests (λ t. Unless t)) in
      let lists_are = mapped define (λ l. OfList l) 0 p.lists in
      let tests_are = mapped define (λ t. Unless t) (length p.lists) p.tests in
      let guards_are = mapped define (λ g. AllOf g) (length p.lists + length p.tests) p.guards in
      behind define 0 ls (ts ++ gs)
      ∙ (λ i. lists_are i ++ defined_from define (first i) (ts ++ gs))
      ∙ ap (λ os. list_options name w 0 p.lists ++ os)
      (behind define (length p.lists) ts gs ∙ (λ i. tests_are i ++ defined_from define (second i) gs) ∙ ap (λ os. test_options name w (length p.lists) p.tests ++ os) guards_are)

  pub options_are : (steps : List PlannedStep) → options_by name p w steps ≡ options_of name (definitions p) w steps
  options_are steps =
      ap (λ os. defined_from (path_option name) 0 p.paths ++ (defined_from (community_option name) 0 p.communities ++ (os ++ policy_of name (step_terms w steps) ∷ []))) (sym subroutines_are)

-- ---- they can be counted

pub few_all : (p : PartsList) (w : Writing) (steps : List PlannedStep) → FewOptions p w steps → HasFew (definitions p) w steps
few_all p w steps few = record {
  paths = few.paths;
  communities = few.communities;
  subroutines =
      let ls = map (λ l. OfList l) p.lists in
      let ts = map (λ t. Unless t) p.tests in
      let gs = map (λ g. AllOf g) p.guards in
      let a = length-append ls (ts ++ gs) in
      let b = length-append ts gs in
      let l = length-map p.lists (λ l. OfList l) in
      let t = length-map p.tests (λ t. Unless t) in
      let g = length-map p.guards (λ g. AllOf g) in
      let k = few.subroutines.together in
      omega (arith, a, b, l, t, g, k);
  terms =
      let Counted : Subroutine → Type 0 = λ s. length (subroutine_terms w s) < 2 ^ 63 in
      both Counted (map (λ l. OfList l) p.lists) (map (λ t. Unless t) p.tests ++ map (λ g. AllOf g) p.guards) (made_of Counted (λ l. OfList l) p.lists few.subroutines.lists)
      (both Counted (map (λ t. Unless t) p.tests) (map (λ g. AllOf g) p.guards) (made_of Counted (λ t. Unless t) p.tests few.subroutines.tests) (made_of Counted (λ g. AllOf g) p.guards few.subroutines.guards));
  steps = few.policy;
}
