-- One condition in place of the terms of lists, where they all accept: it holds where one of theirs does.
use Rattle.std.specs.Prelude.{◌≡◌, Bool, true, false, ◌||◌, List, Option, Some, None}
use Rattle.std.specs.List.{list_any, AllByRecursion}
use Rattle.route_types.specs.Route.{RouteParts}
use Rattle.junos_plans.specs.Conditions.{condition_holds, entries_accept}
use Rattle.junos_plans.specs.Fits.{FitsValue, FitsValues, IsApart, FitsCondition, FitsEntry, FitsList}
use Rattle.junos_plans.specs.declared.condition.PlannedCondition.{PlannedCondition}
use Rattle.junos_plans.specs.declared.condition.PlannedEntry.{PlannedEntry}
use Rattle.junos_plans.specs.declared.condition.PlannedList.{PlannedList}

-- the condition is there, and holds
abbrev pub some_holds : RouteParts → Option PlannedCondition → Bool
some_holds r None = false
some_holds r (Some c) = condition_holds r c

-- one condition was put in place of the first two, which holds where one of them does
abbrev pub Joins : PlannedCondition → PlannedCondition → Bool → PlannedCondition → Type 0
Joins c d false new = Unit {0}
Joins c d true new = ((r : RouteParts) → condition_holds r new ≡ (condition_holds r c || condition_holds r d)) × (FitsValues c → FitsValues d → FitsValues new)

-- the condition of an accepting term was put to those that are gathered
abbrev pub GathersEntry : Option PlannedCondition → PlannedEntry → Bool → Option PlannedCondition → Type 0
GathersEntry old e false new = Unit {0}
GathersEntry old e true new =
    (e.permit ≡ true) × ((r : RouteParts) → some_holds r new ≡ (some_holds r old || condition_holds r e.condition)) × (FitsValue FitsValues old → FitsEntry e → FitsValue FitsValues new)

-- those of all terms were
abbrev pub GathersEntries : Option PlannedCondition → List PlannedEntry → Bool → Option PlannedCondition → Type 0
GathersEntries old es false new = Unit {0}
GathersEntries old es true new =
    ((r : RouteParts) → some_holds r new ≡ (some_holds r old || entries_accept (condition_holds r) es)) × (FitsValue FitsValues old → AllByRecursion FitsEntry es → FitsValue FitsValues new)

-- those of all terms of lists were
abbrev pub GathersLists : Option PlannedCondition → List PlannedList → Bool → Option PlannedCondition → Type 0
GathersLists old ls false new = Unit {0}
GathersLists old ls true new =
    ((r : RouteParts) → some_holds r new ≡ (some_holds r old || list_any (λ l. entries_accept (condition_holds r) l.entries) ls))
    × (FitsValue FitsValues old → AllByRecursion FitsList ls → FitsValue FitsValues new)

-- a condition, where there is one, that holds where one of the lists accepts
abbrev pub SaysLists : List PlannedList → Option PlannedCondition → Type 0
SaysLists ls None = Unit {0}
SaysLists ls (Some c) = ((r : RouteParts) → condition_holds r c ≡ list_any (λ l. entries_accept (condition_holds r) l.entries) ls) × (AllByRecursion FitsList ls → FitsCondition c)

-- of a condition, where there is one, either nothing or this very condition, which is apart
abbrev pub IsFound : Option PlannedCondition → Option PlannedCondition → Type 0
IsFound gathered None = Unit {0}
IsFound gathered (Some c) = (gathered ≡ Some c) × IsApart c
