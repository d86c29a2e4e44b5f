-- Sets that are noted test by test, as those of each sort.
use Rattle.std.proofs.Common.{◌≡◌, refl, sym, ap, ◌∙◌, ℕ, suc, Bool, true, false, List, [], ◌∷◌, ◌++◌, ◌+◌, ◌-◌, ◌≤◌, length, take, drop, get_or, cond, not, nat_lt, Some, None, arith}
use Rattle.std.proofs.lemmas.Bool.Decides.{nat_tests}
use Rattle.std.proofs.lemmas.List.Sums.{prefix_len-le-length}
use Rattle.std.proofs.lemmas.List.{take_all}
use Rattle.std.proofs.lemmas.Option.{same_Some}
use Rattle.std.proofs.lemmas.List.Recursion.{is_position_or_len}
use Rattle.std.specs.List.{position, position_or_len, flat_map}
use Rattle.rpl_plans.specs.declared.test.PlannedTest.{PlannedTest}
use Rattle.rpl_plans.specs.declared.test.PlannedTest.TheVariants.{Destination, NextHop, PathIn, MatchesAny, MatchesEvery, NoCommunity, MedIs, MedAtLeast, MedAtMost, Origin}
use Rattle.rpl_plans.specs.declared.step.PlannedStep.{PlannedStep}
use Rattle.rpl_layout.specs.Forms.{PlannedSets}
use Rattle.rpl_layout.specs.Sharing.{ranges_in, rects_in, texts_in, tests_of, noted_all, place_in, sets_of}
use Rattle.rpl_policies.specs.Own.{own}
use Rattle.rpl_policies.specs.Noting.{no_sets, noted_test, noted_tests}

-- ---- places

module _ {D : Type 0} (test : D → Bool) where
  place_base : place_in test [] ≡ 0
  unfolding place_in
  place_base = refl

  place_step : (d : D) (ds : List D) → place_in test (d ∷ ds) ≡ cond (test d) 0 (1 + place_in test ds)
  unfolding place_in
  place_step d ds = at (test d)
    where
      at : (b : Bool) → elim b [ true ↦ 0 | false ↦ suc (place_in test ds) ] ≡ cond b 0 (1 + place_in test ds)
      at true = refl
      at false = omega arith

  place_is : (ds : List D) → place_in test ds ≡ position_or_len test ds
  place_is ds = is_position_or_len (place_in test) test place_base place_step ds

  -- a set that is among others stands at its place
  pub place_of_position : (ds : List D) (n : ℕ) → position test ds ≡ Some n → n ≡ place_in test ds
  place_of_position ds n e = at (nat_lt (position_or_len test ds) (length ds)) e
    where
      at : (b : Bool) → cond b (Some (position_or_len test ds)) None ≡ Some n → n ≡ place_in test ds
      at true is = sym (same_Some (position_or_len test ds) n is) ∙ sym (place_is ds)
      at false is = absurd cc

  -- where it is not among them, that is behind them
  pub place_of_none : (ds : List D) → position test ds ≡ None → length ds ≡ place_in test ds
  place_of_none ds e = at (nat_lt (position_or_len test ds) (length ds)) refl e
    where
      at : (b : Bool) → nat_lt (position_or_len test ds) (length ds) ≡ b → cond b (Some (position_or_len test ds)) None ≡ None → length ds ≡ place_in test ds
      at true less is = absurd cc
      at false less is =
          let short = prefix_len-le-length (λ x. not (test x)) ds in
          let long : length ds ≤ position_or_len test ds = grind (arith, nat_tests) in
          let same : length ds ≡ position_or_len test ds = omega (arith, short, long) in
          same ∙ sym (place_is ds)

-- ---- more tests behind others

pub noted_append : (s : PlannedSets) (xs ys : List PlannedTest) → noted_tests s (xs ++ ys) ≡ noted_tests (noted_tests s xs) ys
unfolding noted_tests
noted_append s [] ys = refl
noted_append s (x ∷ xs) ys = noted_append (noted_test s x) xs ys

-- the tests of a first item, and those of the items behind it
pub items_noted : {A : Type 0} (tests : A → List PlannedTest) (s now : PlannedSets) (items : List A) (first : A) (m : ℕ)
    → 1 ≤ length items → first ≡ get_or items 0 first → m ≡ length items - 1 → now ≡ noted_tests s (tests first)
    → noted_tests now (flat_map tests (take m (drop 1 items))) ≡ noted_tests s (flat_map tests items)
items_noted tests s now [] first m long is len e = absurd (omega arith)
items_noted tests s now (x ∷ xs) first m long is len e =
    ap (λ (ys : List _). noted_tests now (flat_map tests ys)) (take_all m xs (omega (arith, len)))
    ∙ ap (λ (t : PlannedSets). noted_tests t (flat_map tests xs)) (e ∙ ap (λ y. noted_tests s (tests y)) is)
    ∙ sym (noted_append s (tests x) (flat_map tests xs))

-- ---- each sort by itself

-- the sets with those of these tests
all_noted : PlannedSets → List PlannedTest → PlannedSets
all_noted s ts = record {
  prefixes = noted_all own.ranges s.prefixes (flat_map ranges_in ts);
  communities = noted_all own.rects s.communities (flat_map rects_in ts);
  paths = noted_all own.texts s.paths (flat_map texts_in ts);
}

first_noted : (s : PlannedSets) (t : PlannedTest) (ts : List PlannedTest) → all_noted (noted_test s t) ts ≡ all_noted s (t ∷ ts)
unfolding all_noted noted_test noted_all
first_noted s (Destination rs) ts = refl
first_noted s (NextHop rs) ts = refl
first_noted s (PathIn xs) ts = refl
first_noted s (MatchesAny rs) ts = refl
first_noted s (MatchesEvery rs) ts = refl
first_noted s NoCommunity ts = refl
first_noted s (MedIs n) ts = refl
first_noted s (MedAtLeast n) ts = refl
first_noted s (MedAtMost n) ts = refl
first_noted s (Origin o) ts = refl

noted_by_sort : (s : PlannedSets) (ts : List PlannedTest) → noted_tests s ts ≡ all_noted s ts
unfolding all_noted noted_tests noted_all
noted_by_sort s [] = refl
noted_by_sort s (t ∷ ts) = noted_by_sort (noted_test s t) ts ∙ first_noted s t ts

pub sets_noted : (steps : List PlannedStep) → noted_tests no_sets (tests_of steps) ≡ sets_of own steps
unfolding all_noted
sets_noted steps = noted_by_sort no_sets (tests_of steps)
