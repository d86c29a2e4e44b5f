-- How what is planned is named: each AS path, each community and each subroutine by a name of its own.
use Rattle.std.specs.Prelude.{ℕ, List}
use Rattle.route_types.specs.Community.{RectParts}
use Rattle.junos_plans.specs.declared.condition.PlannedList.{PlannedList}
use Rattle.junos_plans.specs.declared.condition.PlannedTest.{PlannedTest}
use Rattle.junos_plans.specs.declared.step.PlannedLiteral.{PlannedLiteral}

-- what a subroutine says: that a list accepts, that what a literal asks doesn't hold, that all literals say what is wanted
pub data Subroutine : Type 0 where
  OfList : PlannedList → Subroutine
  Unless : PlannedTest → Subroutine
  AllOf : List PlannedLiteral → Subroutine

-- the names of patterns by their texts, of communities by their members, and of subroutines
pub record Writing : Type 0 where
  pub path : List ℕ → List ℕ
  pub community : List RectParts → List ℕ
  pub subroutine : Subroutine → List ℕ
