-- The sets of tests, noted one test after the other.
use Rattle.std.specs.Prelude.{List, [], ◌∷◌}
use Rattle.rpl_plans.specs.declared.test.PlannedTest.{PlannedTest}
use Rattle.rpl_plans.specs.declared.test.PlannedTest.TheVariants.{Destination, NextHop, PathIn, MatchesAny, MatchesEvery, NoCommunity, MedIs, MedAtLeast, MedAtMost, Origin}
use Rattle.rpl_layout.specs.Forms.{PlannedSets}
use Rattle.rpl_layout.specs.Sharing.{noted}
use Rattle.rpl_policies.specs.Own.{own}

-- no sets
abbrev pub no_sets : PlannedSets
no_sets = record { prefixes = []; communities = []; paths = [] }

-- the set of one more test, if it has one
unfoldable pub noted_test : PlannedSets → PlannedTest → PlannedSets
noted_test s (Destination rs) = record { prefixes = noted own.ranges s.prefixes rs; communities = s.communities; paths = s.paths }
noted_test s (NextHop rs) = record { prefixes = noted own.ranges s.prefixes rs; communities = s.communities; paths = s.paths }
noted_test s (PathIn ts) = record { prefixes = s.prefixes; communities = s.communities; paths = noted own.texts s.paths ts }
noted_test s (MatchesAny rs) = record { prefixes = s.prefixes; communities = noted own.rects s.communities rs; paths = s.paths }
noted_test s (MatchesEvery rs) = record { prefixes = s.prefixes; communities = noted own.rects s.communities rs; paths = s.paths }
noted_test s NoCommunity = s
noted_test s (MedIs n) = s
noted_test s (MedAtLeast n) = s
noted_test s (MedAtMost n) = s
noted_test s (Origin o) = s

-- the sets of more tests
unfoldable pub noted_tests : PlannedSets → List PlannedTest → PlannedSets
noted_tests s [] = s
noted_tests s (t ∷ ts) = noted_tests (noted_test s t) ts
