-- By whatever tests sets are told apart, the sets and the forms are the same.
use Rattle.std.proofs.Common.{◌≡◌, refl, ap, ◌∙◌, subst, ℕ, Bool, List, []}
use Rattle.std.specs.Bool.{Decides, one_answer}
use Rattle.std.specs.List.{flat_map}
use Rattle.route_types.specs.Community.{RectParts}
use Rattle.prefix_sets.specs.Range.{RangeParts}
use Rattle.rpl_words.specs.declared.condition.RplTest.TheVariants.{Destination as OfDestination, NextHop as OfNextHop, PathIn as OfPath, MatchesAny as OfAny, MatchesEvery as OfEvery}
use Rattle.rpl_words.specs.declared.number.RplSet.TheVariants.{Named}
use Rattle.rpl_forms.specs.declared.item.RplForm.{RplForm}
use Rattle.rpl_plans.specs.declared.step.PlannedStep.{PlannedStep}
use Rattle.rpl_plans.specs.declared.test.PlannedTest.{PlannedTest}
use Rattle.rpl_plans.specs.declared.test.PlannedTest.TheVariants.{Destination, NextHop, PathIn, MatchesAny, MatchesEvery, NoCommunity, MedIs, MedAtLeast, MedAtMost, Origin}
use Rattle.rpl_layout.specs.Forms.{PlannedSets, HasFew, forms_of, prefix_name, community_name, path_name}
use Rattle.rpl_layout.specs.Guards.{Writing}
use Rattle.rpl_layout.specs.Sharing.{ranges_in, rects_in, texts_in, tests_of, noted_all, place_in, Tells, sets_of, written_by}
use Rattle.rpl_policies.specs.Own.{own}

-- two tests that decide the same are one
one_test : {D : Type 0} (f g : D → D → Bool) → ((a b : D) → Decides (f a b) (a ≡ b)) → ((a b : D) → Decides (g a b) (a ≡ b)) → f ≡ g
one_test f g f_decides g_decides = λ i a b. one_answer (f a b) (g a b) (f_decides a b) (g_decides a b) i

module _ (t u : Tells) where
  ranges : t.ranges ≡ u.ranges
  ranges = one_test t.ranges u.ranges t.ranges_decide u.ranges_decide

  rects : t.rects ≡ u.rects
  rects = one_test t.rects u.rects t.rects_decide u.rects_decide

  texts : t.texts ≡ u.texts
  texts = one_test t.texts u.texts t.texts_decide u.texts_decide

  sets_same : (steps : List PlannedStep) → sets_of t steps ≡ sets_of u steps
  sets_same steps =
      let r = ranges in
      let c = rects in
      let x = texts in
      λ i. record {
        prefixes = noted_all (r i) [] (flat_map ranges_in (tests_of steps));
        communities = noted_all (c i) [] (flat_map rects_in (tests_of steps));
        paths = noted_all (x i) [] (flat_map texts_in (tests_of steps));
      }

  module _ (name : List ℕ) (sets : PlannedSets) where
    test_same : (x : PlannedTest) → written_by t name sets x ≡ written_by u name sets x
    test_same (Destination rs) = ap (λ (same : List RangeParts → List RangeParts → Bool). OfDestination (Named (prefix_name name (place_in (same rs) sets.prefixes)))) ranges
    test_same (NextHop rs) = ap (λ (same : List RangeParts → List RangeParts → Bool). OfNextHop (Named (prefix_name name (place_in (same rs) sets.prefixes)))) ranges
    test_same (PathIn ts) = ap (λ (same : List (List ℕ) → List (List ℕ) → Bool). OfPath (Named (path_name name (place_in (same ts) sets.paths)))) texts
    test_same (MatchesAny rs) = ap (λ (same : List RectParts → List RectParts → Bool). OfAny (Named (community_name name (place_in (same rs) sets.communities)))) rects
    test_same (MatchesEvery rs) = ap (λ (same : List RectParts → List RectParts → Bool). OfEvery (Named (community_name name (place_in (same rs) sets.communities)))) rects
    test_same NoCommunity = refl
    test_same (MedIs n) = refl
    test_same (MedAtLeast n) = refl
    test_same (MedAtMost n) = refl
    test_same (Origin o) = refl

    writing_same : written_by t name sets ≡ written_by u name sets
    writing_same = λ i x. test_same x i

forms_by : List ℕ → Tells → PlannedSets → List PlannedStep → List RplForm
forms_by name tells sets steps = forms_of name sets (written_by tells name sets) steps

-- the forms are the same
pub forms_alike : (name : List ℕ) (steps : List PlannedStep) (tells : Tells)
    → forms_of name (sets_of own steps) (written_by own name (sets_of own steps)) steps ≡ forms_of name (sets_of tells steps) (written_by tells name (sets_of tells steps)) steps
forms_alike name steps tells =
    ap (λ (w : Writing). forms_of name (sets_of own steps) w steps) (writing_same own tells name (sets_of own steps))
    ∙ ap (λ (s : PlannedSets). forms_of name s (written_by tells name s) steps) (sets_same own tells steps)

-- and so are the sets
pub few_alike : (steps : List PlannedStep) (tells : Tells) → HasFew (sets_of own steps) → HasFew (sets_of tells steps)
few_alike steps tells few = subst HasFew (sets_same own tells steps) few
