-- The sets of planned steps: each once, in the order of their first use, and each test by the name of its set.
use Rattle.std.specs.Prelude.{◌≡◌, ℕ, suc, Bool, true, false, List, [], ◌∷◌, ◌++◌, if◌then◌else◌}
use Rattle.std.specs.Bool.{Decides}
use Rattle.std.specs.List.{list_any, flat_map}
use Rattle.route_types.specs.Community.{RectParts}
use Rattle.prefix_sets.specs.Range.{RangeParts}
use Rattle.rpl_words.specs.declared.condition.RplTest.TheVariants.{Destination as OfDestination, NextHop as OfNextHop, PathIn as OfPath, MatchesAny as OfAny, MatchesEvery as OfEvery, IsEmpty, Med, Origin as OfOrigin}
use Rattle.rpl_words.specs.declared.element.Comparison.TheVariants.{Equal, AtLeast, AtMost}
use Rattle.rpl_words.specs.declared.number.RplNumber.TheVariants.{Fixed}
use Rattle.rpl_words.specs.declared.number.RplSet.TheVariants.{Named}
use Rattle.rpl_plans.specs.declared.choice.PlannedTerm.{PlannedTerm}
use Rattle.rpl_plans.specs.declared.step.PlannedLiteral.{PlannedLiteral}
use Rattle.rpl_plans.specs.declared.step.PlannedStep.{PlannedStep}
use Rattle.rpl_plans.specs.declared.test.PlannedTest.{PlannedTest}
use Rattle.rpl_plans.specs.declared.test.PlannedTest.TheVariants.{Destination, NextHop, PathIn, MatchesAny, MatchesEvery, NoCommunity, MedIs, MedAtLeast, MedAtMost, Origin}
use Rattle.rpl_layout.specs.Forms.{PlannedSets, prefix_name, community_name, path_name}
use Rattle.rpl_layout.specs.Guards.{Writing}

-- ---- the tests of steps, in the order in which they are written

abbrev pub term_tests : PlannedTerm → List PlannedTest
term_tests t = t.denied ++ t.permitted ∷ []

abbrev pub literal_tests : PlannedLiteral → List PlannedTest
literal_tests l = term_tests l.terms.first ++ flat_map term_tests l.terms.others

abbrev pub tests_of : List PlannedStep → List PlannedTest
tests_of steps = flat_map (λ s. flat_map literal_tests s.guard) steps

-- the set of a test, if it is of the sort
abbrev pub ranges_in : PlannedTest → List (List RangeParts)
ranges_in (Destination rs) = rs ∷ []
ranges_in (NextHop rs) = rs ∷ []
ranges_in _ = []

abbrev pub rects_in : PlannedTest → List (List RectParts)
rects_in (MatchesAny rs) = rs ∷ []
rects_in (MatchesEvery rs) = rs ∷ []
rects_in _ = []

abbrev pub texts_in : PlannedTest → List (List (List ℕ))
texts_in (PathIn ts) = ts ∷ []
texts_in _ = []

-- ---- each set once

-- one more, where none is the same
abbrev pub noted : {D : Type 0} → (D → D → Bool) → List D → D → List D
noted same ds d = if list_any (same d) ds then ds else ds ++ d ∷ []

-- more of them, one after the other
unfoldable pub noted_all : {D : Type 0} → (D → D → Bool) → List D → List D → List D
noted_all same ds [] = ds
noted_all same ds (x ∷ xs) = noted_all same (noted same ds x) xs

-- the place of the first that passes the test
unfoldable pub place_in : {D : Type 0} → (D → Bool) → List D → ℕ
place_in test [] = 0
place_in test (d ∷ ds) = elim (test d) [ true ↦ 0 | false ↦ suc (place_in test ds) ]

-- tests that tell sets apart
pub record Tells : Type 0 where
  pub ranges : List RangeParts → List RangeParts → Bool
  pub rects : List RectParts → List RectParts → Bool
  pub texts : List (List ℕ) → List (List ℕ) → Bool
  pub ranges_decide : (a b : List RangeParts) → Decides (ranges a b) (a ≡ b)
  pub rects_decide : (a b : List RectParts) → Decides (rects a b) (a ≡ b)
  pub texts_decide : (a b : List (List ℕ)) → Decides (texts a b) (a ≡ b)

-- the sets of steps
abbrev pub sets_of : Tells → List PlannedStep → PlannedSets
sets_of tells steps = record {
  prefixes = noted_all tells.ranges [] (flat_map ranges_in (tests_of steps));
  communities = noted_all tells.rects [] (flat_map rects_in (tests_of steps));
  paths = noted_all tells.texts [] (flat_map texts_in (tests_of steps));
}

-- a test by the name of its set among these
abbrev pub written_by : Tells → List ℕ → PlannedSets → Writing
written_by tells name sets (Destination rs) = OfDestination (Named (prefix_name name (place_in (tells.ranges rs) sets.prefixes)))
written_by tells name sets (NextHop rs) = OfNextHop (Named (prefix_name name (place_in (tells.ranges rs) sets.prefixes)))
written_by tells name sets (PathIn ts) = OfPath (Named (path_name name (place_in (tells.texts ts) sets.paths)))
written_by tells name sets (MatchesAny rs) = OfAny (Named (community_name name (place_in (tells.rects rs) sets.communities)))
written_by tells name sets (MatchesEvery rs) = OfEvery (Named (community_name name (place_in (tells.rects rs) sets.communities)))
written_by tells name sets NoCommunity = IsEmpty
written_by tells name sets (MedIs n) = Med (record { comparison = Equal; med = Fixed n })
written_by tells name sets (MedAtLeast n) = Med (record { comparison = AtLeast; med = Fixed n })
written_by tells name sets (MedAtMost n) = Med (record { comparison = AtMost; med = Fixed n })
written_by tells name sets (Origin o) = OfOrigin o
