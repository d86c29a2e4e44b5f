-- How what is planned is told apart: by as many items, each equal to the other in all its parts.
use Rattle.std.specs.Prelude.{ℕ, Bool, ◌&&◌, ◌==◌, List}
use Rattle.std.specs.Cmp.Lexicographic.{pointwise}
use Rattle.route_types.specs.Community.{RectParts}
use Rattle.junos_plans.specs.contracts.condition.PlannedListPartialEq.TheImpl as list
use Rattle.junos_plans.specs.contracts.condition.PlannedTestPartialEq.TheImpl as test
use Rattle.junos_plans.specs.contracts.step.PlannedLiteralPartialEq.TheImpl as literal
use Rattle.junos_plans.specs.declared.condition.PlannedList.{PlannedList}
use Rattle.junos_plans.specs.declared.condition.PlannedTest.{PlannedTest}
use Rattle.junos_plans.specs.declared.step.PlannedLiteral.{PlannedLiteral}

-- two texts
abbrev pub same_text : List ℕ → List ℕ → Bool
same_text a b = pointwise (λ m n. m == n) a b

-- two members
abbrev pub same_rect : RectParts → RectParts → Bool
same_rect a b = a.high_least == b.high_least && (a.high_most == b.high_most && (a.low_least == b.low_least && a.low_most == b.low_most))

-- the members of two communities
abbrev pub same_members : List RectParts → List RectParts → Bool
same_members a b = pointwise same_rect a b

-- two lists, two tests, the literals of two guards
abbrev pub same_list : PlannedList → PlannedList → Bool
same_list a b = list.ghosts.eq a b

abbrev pub same_test : PlannedTest → PlannedTest → Bool
same_test a b = test.ghosts.eq a b

abbrev pub same_guard : List PlannedLiteral → List PlannedLiteral → Bool
same_guard a b = pointwise (λ l m. literal.ghosts.eq l m) a b
