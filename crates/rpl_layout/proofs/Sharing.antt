-- Each test of steps is written by the name of its set.
use Rattle.std.proofs.Common.{◌≡◌, refl, sym, ap, ◌∙◌, ℕ, suc, Bool, true, false, ◌||◌, List, [], ◌∷◌, ◌++◌, Some, if◌then◌else◌}
use Rattle.std.specs.Prelude.{slice_get}
use Rattle.std.specs.Bool.{Decides}
use Rattle.std.specs.List.{list_any, flat_map, AllByRecursion}
use Rattle.std.proofs.lemmas.List.Folds.{list_any-append}
use Rattle.rpl_plans.specs.declared.choice.PlannedTerm.{PlannedTerm}
use Rattle.rpl_plans.specs.declared.step.PlannedLiteral.{PlannedLiteral}
use Rattle.rpl_plans.specs.declared.step.PlannedStep.{PlannedStep}
use Rattle.rpl_plans.specs.declared.test.PlannedTest.{PlannedTest}
use Rattle.rpl_plans.specs.declared.test.PlannedTest.TheVariants.{Destination, NextHop, PathIn, MatchesAny, MatchesEvery, NoCommunity, MedIs, MedAtLeast, MedAtMost, Origin}
use Rattle.rpl_layout.specs.Forms.{PlannedSets, Writes, HasFew, NamesItsSets}
use Rattle.rpl_layout.specs.Sharing.{term_tests, literal_tests, tests_of, ranges_in, rects_in, texts_in, noted, noted_all, place_in, Tells, sets_of, written_by}
use Rattle.rpl_layout.specs.Tests.{EachOfTerm, EachOfTerms, EachTest}

or_true : (a b : Bool) → b ≡ true → (a || b) ≡ true
or_true true b e = refl
or_true false b e = e

or_left : (a b : Bool) → a ≡ true → (a || b) ≡ true
or_left a b e = ap (λ k. k || b) e

-- ---- sets that are noted

module _ {D : Type 0} (same : D → D → Bool) (decides : (a b : D) → Decides (same a b) (a ≡ b)) where
  -- a set that is among others stands at its place
  place_found : (ds : List D) (d : D) → list_any (same d) ds ≡ true → slice_get ds (place_in (same d) ds) ≡ Some d
  unfolding place_in
  place_found [] d h = absurd cc
  place_found (e ∷ es) d h = one (same d e) refl h (place_found es d) where
    one : (b : Bool) → same d e ≡ b → (b || list_any (same d) es) ≡ true → (list_any (same d) es ≡ true → slice_get es (place_in (same d) es) ≡ Some d)
        → slice_get (e ∷ es) (elim b [ true ↦ 0 | false ↦ suc (place_in (same d) es) ]) ≡ Some d
    one true is k more = ap (λ x. Some x) (sym ((decides d e).0 is))
    one false is k more = more k

  still : (ds : List D) (x d : D) → list_any (same d) ds ≡ true → list_any (same d) (noted same ds x) ≡ true
  still ds x d h = one (list_any (same x) ds) where
    one : (b : Bool) → list_any (same d) (if b then ds else ds ++ x ∷ []) ≡ true
    one true = h
    one false = list_any-append (same d) ds (x ∷ []) ∙ or_left (list_any (same d) ds) (list_any (same d) (x ∷ [])) h

  still_all : (xs ds : List D) (d : D) → list_any (same d) ds ≡ true → list_any (same d) (noted_all same ds xs) ≡ true
  unfolding noted_all
  still_all [] ds d h = h
  still_all (x ∷ xs) ds d h = still_all xs (noted same ds x) d (still ds x d h)

  now_there : (ds : List D) (x : D) → list_any (same x) (noted same ds x) ≡ true
  now_there ds x = one (list_any (same x) ds) refl where
    one : (b : Bool) → list_any (same x) ds ≡ b → list_any (same x) (if b then ds else ds ++ x ∷ []) ≡ true
    one true e = e
    one false e = list_any-append (same x) ds (x ∷ []) ∙ or_true (list_any (same x) ds) (list_any (same x) (x ∷ [])) (or_left (same x x) false ((decides x x).1 refl))

  all_there : (xs ds : List D) → AllByRecursion (λ x. list_any (same x) (noted_all same ds xs) ≡ true) xs
  unfolding noted_all
  all_there [] ds = tt
  all_there (x ∷ xs) ds = (still_all xs (noted same ds x) x (now_there ds x), all_there xs (noted same ds x))

-- ---- from the tests in a row to those of steps

front : {A : Type 0} (P : A → Type 0) (xs ys : List A) → AllByRecursion P (xs ++ ys) → AllByRecursion P xs × AllByRecursion P ys
front P [] ys h = (tt, h)
front P (x ∷ xs) ys h = let more = front P xs ys h.1 in ((h.0, more.0), more.1)

module _ (P : PlannedTest → Type 0) where
  of_term : (t : PlannedTerm) → AllByRecursion P (term_tests t) → EachOfTerm P t
  of_term t h = let parts = front P t.denied (t.permitted ∷ []) h in (parts.0, parts.1.0)

  of_others : (ts : List PlannedTerm) → AllByRecursion P (flat_map term_tests ts) → AllByRecursion (EachOfTerm P) ts
  of_others [] h = tt
  of_others (t ∷ ts) h = let parts = front P (term_tests t) (flat_map term_tests ts) h in (of_term t parts.0, of_others ts parts.1)

  of_literals : (ls : List PlannedLiteral) → AllByRecursion P (flat_map literal_tests ls) → AllByRecursion (λ l. EachOfTerms P l.terms) ls
  of_literals [] h = tt
  of_literals (l ∷ ls) h =
      let parts = front P (literal_tests l) (flat_map literal_tests ls) h in
      let here = front P (term_tests l.terms.first) (flat_map term_tests l.terms.others) parts.0 in
      ((of_term l.terms.first here.0, of_others l.terms.others here.1), of_literals ls parts.1)

  of_steps : (ss : List PlannedStep) → AllByRecursion P (tests_of ss) → EachTest P ss
  of_steps [] h = tt
  of_steps (s ∷ ss) h =
      let parts = front P (flat_map literal_tests s.guard) (tests_of ss) h in
      (of_literals s.guard parts.0, of_steps ss parts.1)

-- ---- the whole

module _ (tells : Tells) (name : List ℕ) (sets : PlannedSets) where
  -- the sets of a test are among those of the plan
  abbrev HasSets : PlannedTest → Type 0
  HasSets t =
      AllByRecursion (λ x. list_any (tells.ranges x) sets.prefixes ≡ true) (ranges_in t)
      × AllByRecursion (λ x. list_any (tells.rects x) sets.communities ≡ true) (rects_in t)
      × AllByRecursion (λ x. list_any (tells.texts x) sets.paths ≡ true) (texts_in t)

  written_is : (t : PlannedTest) → HasSets t → Writes name sets t (written_by tells name sets t)
  written_is (Destination rs) h = (place_in (tells.ranges rs) sets.prefixes, place_found tells.ranges tells.ranges_decide sets.prefixes rs h.0.0, refl)
  written_is (NextHop rs) h = (place_in (tells.ranges rs) sets.prefixes, place_found tells.ranges tells.ranges_decide sets.prefixes rs h.0.0, refl)
  written_is (PathIn ts) h = (place_in (tells.texts ts) sets.paths, place_found tells.texts tells.texts_decide sets.paths ts h.2.0, refl)
  written_is (MatchesAny rs) h = (place_in (tells.rects rs) sets.communities, place_found tells.rects tells.rects_decide sets.communities rs h.1.0, refl)
  written_is (MatchesEvery rs) h = (place_in (tells.rects rs) sets.communities, place_found tells.rects tells.rects_decide sets.communities rs h.1.0, refl)
  written_is NoCommunity h = refl
  written_is (MedIs n) h = refl
  written_is (MedAtLeast n) h = refl
  written_is (MedAtMost n) h = refl
  written_is (Origin o) h = refl

  each_written : (ts : List PlannedTest) → AllByRecursion (λ x. list_any (tells.ranges x) sets.prefixes ≡ true) (flat_map ranges_in ts)
      → AllByRecursion (λ x. list_any (tells.rects x) sets.communities ≡ true) (flat_map rects_in ts)
      → AllByRecursion (λ x. list_any (tells.texts x) sets.paths ≡ true) (flat_map texts_in ts)
      → AllByRecursion (λ t. Writes name sets t (written_by tells name sets t)) ts
  each_written [] a b c = tt
  each_written (t ∷ ts) a b c =
      let ranges = front (λ x. list_any (tells.ranges x) sets.prefixes ≡ true) (ranges_in t) (flat_map ranges_in ts) a in
      let rects = front (λ x. list_any (tells.rects x) sets.communities ≡ true) (rects_in t) (flat_map rects_in ts) b in
      let texts = front (λ x. list_any (tells.texts x) sets.paths ≡ true) (texts_in t) (flat_map texts_in ts) c in
      (written_is t (ranges.0, rects.0, texts.0), each_written ts ranges.1 rects.1 texts.1)

pub names_sets : (tells : Tells) (name : List ℕ) (steps : List PlannedStep) → HasFew (sets_of tells steps) → NamesItsSets name (sets_of tells steps) (written_by tells name (sets_of tells steps)) steps
names_sets tells name steps few =
    let sets : PlannedSets = sets_of tells steps in
    record {
      few = few;
      writes = of_steps (λ t. Writes name sets t (written_by tells name sets t)) steps (each_written tells name sets (tests_of steps)
          (all_there tells.ranges tells.ranges_decide (flat_map ranges_in (tests_of steps)) [])
          (all_there tells.rects tells.rects_decide (flat_map rects_in (tests_of steps)) [])
          (all_there tells.texts tells.texts_decide (flat_map texts_in (tests_of steps)) []));
    }
