-- The statements of planned steps that fit may be written.
use Rattle.std.proofs.Common.{refl, sym, subst, ℕ, suc, ◌≤◌, Bool, true, false, List, [], ◌∷◌, ◌++◌, length, append_assoc, arith, Some}
use Rattle.std.specs.Prelude.{codes}
use Rattle.std.specs.List.{AllByRecursion}
use Rattle.text_words.specs.declared.rpl_blocks.BlockKind.TheVariants.{Policy as PolicyBlock}
use Rattle.rpl_words.specs.Conditions.{Asks, terms_of}
use Rattle.rpl_forms.specs.declared.item.Action.{Action}
use Rattle.rpl_forms.specs.declared.item.PolicyStatement.TheVariants.{EndIf}
use Rattle.rpl_forms.specs.declared.item.RplForm.{RplForm}
use Rattle.rpl_forms.specs.declared.item.RplForm.TheVariants.{Statement}
use Rattle.rpl_tree.specs.Blocks.{ifs_behind}
use Rattle.rpl_plans.specs.Fits.{FitsTest, FitsStep}
use Rattle.rpl_plans.specs.declared.choice.PlannedTerm.{PlannedTerm}
use Rattle.rpl_plans.specs.declared.choice.PlannedTerms.{PlannedTerms}
use Rattle.rpl_plans.specs.declared.step.PlannedLiteral.{PlannedLiteral}
use Rattle.rpl_plans.specs.declared.step.PlannedStep.{PlannedStep}
use Rattle.rpl_plans.specs.declared.test.PlannedTest.{PlannedTest}
use Rattle.rpl_plans.specs.declared.test.PlannedTest.TheVariants.{Destination, NextHop, PathIn, MatchesAny, MatchesEvery, NoCommunity, MedIs, MedAtLeast, MedAtMost, Origin}
use Rattle.rpl_layout.specs.Forms.{PlannedSets, HasFew}
use Rattle.rpl_layout.specs.Guards.{Writing, guard_condition}
use Rattle.rpl_layout.specs.Sharing.{Tells, place_in, written_by}
use Rattle.rpl_layout.specs.Statements.{actions_of, body_of, step_forms, steps_forms}
use Rattle.rpl_layout.specs.Tests.{EachOfTerm, EachOfTerms}
use Rattle.rpl_layout.proofs.Asked.{Keeps, guard_deep}
use Rattle.rpl_layout.proofs.ShapeLaws.{guard_shaped}
use Rattle.rpl_text.specs.Written.{HeadsBlock, FitsTest as FitsWrittenTest, FitsTests, FitsCondition, FitsAction, MayStand}
use Rattle.rpl_writable.proofs.ActionLaws.{actions_fit}
use Rattle.rpl_writable.proofs.NameLaws.{set_within}
use Rattle.rpl_writable.proofs.SetLaws.{all_each}

-- ---- tests

place_few : {D : Type 0} (test : D → Bool) (ds : List D) → place_in test ds ≤ length ds
unfolding place_in
place_few test [] = omega arith
place_few test (d ∷ ds) = one (test d) (place_few test ds) where
  one : (b : Bool) → place_in test ds ≤ length ds → elim b [ true ↦ 0 | false ↦ suc (place_in test ds) ] ≤ suc (length ds)
  one true h = omega arith
  one false h = omega arith

module _ (tells : Tells) (name : List ℕ) (sets : PlannedSets) (heads : HeadsBlock name) (few : HasFew sets) where
  pub test_written : (t : PlannedTest) → FitsTest t → FitsWrittenTest (written_by tells name sets t)
  test_written (Destination rs) h = set_within name (codes "-p") heads refl refl (place_in (tells.ranges rs) sets.prefixes) (omega (arith, place_few (tells.ranges rs) sets.prefixes, few.prefixes))
  test_written (NextHop rs) h = set_within name (codes "-p") heads refl refl (place_in (tells.ranges rs) sets.prefixes) (omega (arith, place_few (tells.ranges rs) sets.prefixes, few.prefixes))
  test_written (PathIn ts) h = set_within name (codes "-a") heads refl refl (place_in (tells.texts ts) sets.paths) (omega (arith, place_few (tells.texts ts) sets.paths, few.paths))
  test_written (MatchesAny rs) h = set_within name (codes "-c") heads refl refl (place_in (tells.rects rs) sets.communities) (omega (arith, place_few (tells.rects rs) sets.communities, few.communities))
  test_written (MatchesEvery rs) h = set_within name (codes "-c") heads refl refl (place_in (tells.rects rs) sets.communities) (omega (arith, place_few (tells.rects rs) sets.communities, few.communities))
  test_written NoCommunity h = tt
  test_written (MedIs n) h = omega (arith, h)
  test_written (MedAtLeast n) h = omega (arith, h)
  test_written (MedAtMost n) h = omega (arith, h)
  test_written (Origin o) h = tt

-- ---- guards

tests_keep : Keeps FitsTests FitsTests
unfolding FitsTests
tests_keep = record {
  negated = λ c h. h;
  both = λ c d h k. (h, k);
  either = λ c d h k. (h, k);
  grouped = λ c h. h;
  flat = λ c h. h;
  negated_deep = λ c h. h;
  both_deep = λ c d h k. (h, k);
}

module _ (written : Writing) (may : (t : PlannedTest) → FitsTest t → FitsWrittenTest (written t)) where
  leaf : (t : PlannedTest) → FitsTest t → FitsTests (Asks (written t))
  unfolding FitsTests
  leaf t h = may t h

  leaf_term : (t : PlannedTerm) → EachOfTerm FitsTest t → EachOfTerm (λ u. FitsTests (Asks (written u))) t
  leaf_term t h = (all_each FitsTest (λ u. FitsTests (Asks (written u))) leaf t.denied h.0, leaf t.permitted h.1)

  leaf_terms : (ts : PlannedTerms) → EachOfTerms FitsTest ts → EachOfTerms (λ u. FitsTests (Asks (written u))) ts
  leaf_terms ts h = (leaf_term ts.first h.0, all_each (EachOfTerm FitsTest) (EachOfTerm (λ u. FitsTests (Asks (written u)))) leaf_term ts.others h.1)

  guard_fits : (l : PlannedLiteral) (ls : List PlannedLiteral) → AllByRecursion (λ m. EachOfTerms FitsTest m.terms) (l ∷ ls) → FitsCondition (terms_of (guard_condition written l ls))
  guard_fits l ls h = (
    guard_condition written l ls,
    guard_shaped written l ls,
    guard_deep FitsTests FitsTests tests_keep written l ls (leaf_terms l.terms h.0)
        (all_each (λ m. EachOfTerms FitsTest m.terms) (λ m. EachOfTerms (λ u. FitsTests (Asks (written u))) m.terms) (λ m k. leaf_terms m.terms k) ls h.1),
    refl,
  )

  -- ---- steps

  body_stands : (ifs : List Bool) (xs : List Action) (accept : Bool) (rest : List RplForm) → AllByRecursion FitsAction xs → MayStand (Some PolicyBlock) ifs rest → MayStand (Some PolicyBlock) ifs (body_of xs accept ++ rest)
  unfolding MayStand ifs_behind
  body_stands ifs [] true rest h more = (tt, (ifs, refl, more))
  body_stands ifs [] false rest h more = (tt, (ifs, refl, more))
  body_stands ifs (x ∷ xs) accept rest h more = (h.0, (ifs, refl, body_stands ifs xs accept rest h.1 more))

  step_stands : (guard : List PlannedLiteral) (xs : List Action) (accept : Bool) (following rest : List RplForm) → AllByRecursion (λ l. EachOfTerms FitsTest l.terms) guard → AllByRecursion FitsAction xs
      → MayStand (Some PolicyBlock) [] rest → MayStand (Some PolicyBlock) [] (following ++ rest) → MayStand (Some PolicyBlock) [] (step_forms written guard (body_of xs accept) following ++ rest)
  unfolding MayStand ifs_behind
  step_stands [] xs accept following rest h fit last more = body_stands [] xs accept rest fit last
  step_stands (l ∷ ls) xs accept following rest h fit last more =
      let within : MayStand (Some PolicyBlock) (false ∷ []) (body_of xs accept ++ (Statement EndIf ∷ (following ++ rest))) =
      body_stands (false ∷ []) xs accept (Statement EndIf ∷ (following ++ rest)) fit (tt, ([], refl, more)) in
      (guard_fits l ls h, (false ∷ [], refl, subst (λ (fs : List RplForm). MayStand (Some PolicyBlock) (false ∷ []) fs) (sym (append_assoc (body_of xs accept) (Statement EndIf ∷ following) rest)) within))

  pub steps_stand : (steps : List PlannedStep) (rest : List RplForm) → AllByRecursion FitsStep steps → MayStand (Some PolicyBlock) [] rest → MayStand (Some PolicyBlock) [] (steps_forms written steps ++ rest)
  unfolding steps_forms
  steps_stand [] rest h last = last
  steps_stand (s ∷ ss) rest h last = step_stands s.guard (actions_of s.actions) s.accept (steps_forms written ss) rest h.0.guard (actions_fit s.actions h.0.actions) last (steps_stand ss rest h.1 last)
