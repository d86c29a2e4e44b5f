-- Planned steps and subroutines as terms of Junos (Junos OS Routing Policies, Firewall Filters, and Traffic Policers User
-- Guide, 'Routing Policy Match Conditions', 'Policy Subroutines'). Each policy ends in a term without `from` that accepts or rejects.
use Rattle.std.specs.Prelude.{Bool, true, false, List, [], ◌∷◌, ◌++◌, map}
use Rattle.std.specs.List.{flat_map}
use Rattle.junos_tree.specs.Terms.{Content}
use Rattle.junos_tree.specs.declared.item.Action.{Action}
use Rattle.junos_tree.specs.declared.item.Action.TheVariants.{Flow as FlowAction}
use Rattle.junos_tree.specs.declared.item.Condition.{Condition}
use Rattle.junos_tree.specs.declared.item.Condition.TheVariants.{Community, AsPath, NextHop as AsksNextHop, Policy, RouteFilter, Metric, LocalPreference as HasPreference, Origin as HasOrigin}
use Rattle.junos_tree.specs.declared.item.Flow.TheVariants.{Accept, Reject}
use Rattle.junos_plans.specs.declared.condition.PlannedCondition.{PlannedCondition}
use Rattle.junos_plans.specs.declared.condition.PlannedCondition.TheVariants.{Anything, Destination, NextHop, Path, Communities, Med, LocalPreference, Origin}
use Rattle.junos_plans.specs.declared.condition.PlannedEntry.{PlannedEntry}
use Rattle.junos_plans.specs.declared.condition.PlannedList.{PlannedList}
use Rattle.junos_plans.specs.declared.condition.PlannedTest.{PlannedTest}
use Rattle.junos_plans.specs.declared.condition.PlannedTest.TheVariants.{Asked, Listed}
use Rattle.junos_plans.specs.declared.step.PlannedGuard.{PlannedGuard}
use Rattle.junos_plans.specs.declared.step.PlannedLiteral.{PlannedLiteral}
use Rattle.junos_plans.specs.declared.step.PlannedStep.{PlannedStep}
use Rattle.junos_layout.specs.Actions.{actions_of}
use Rattle.junos_layout.specs.Writing.{Subroutine, OfList, Unless, AllOf, Writing}

-- ---- what a `from` says

-- a condition: a line for each of several ranges, else one line or none
abbrev pub condition_lines : Writing → PlannedCondition → List Condition
condition_lines w Anything = []
condition_lines w (Destination ranges) = map (λ x. RouteFilter x) ranges
condition_lines w (NextHop hops) = AsksNextHop hops ∷ []
condition_lines w (Path texts) = AsPath (map w.path texts) ∷ []
condition_lines w (Communities sets) = Community (map w.community sets) ∷ []
condition_lines w (Med n) = Metric n ∷ []
condition_lines w (LocalPreference n) = HasPreference n ∷ []
condition_lines w (Origin o) = HasOrigin o ∷ []

-- some list accepts
abbrev pub call_of : Writing → List PlannedList → Condition
call_of w ls = Policy (map (λ l. w.subroutine (OfList l)) ls)

-- what a literal asks
abbrev pub test_lines : Writing → PlannedTest → List Condition
test_lines w (Asked c) = condition_lines w c
test_lines w (Listed ls) = call_of w ls ∷ []

-- literals: one that a list says by a call of the list, others by a subroutine of their own
abbrev pub one_literal : Writing → PlannedTest → Bool → List Condition
one_literal w (Listed ls) true = call_of w ls ∷ []
one_literal w test wanted = Policy (w.subroutine (AllOf (record { test = test; wanted = wanted } ∷ [])) ∷ []) ∷ []

abbrev pub literal_lines : Writing → List PlannedLiteral → List Condition
literal_lines w [] = []
literal_lines w (l ∷ []) = one_literal w l.test l.wanted
literal_lines w (l ∷ m ∷ ls) = Policy (w.subroutine (AllOf (l ∷ m ∷ ls)) ∷ []) ∷ []

-- the `from` of a guard
abbrev pub from_of : Writing → PlannedGuard → List Condition
from_of w g = flat_map (condition_lines w) g.conditions ++ literal_lines w g.literals

-- ---- terms

-- `accept`, or `reject`
abbrev pub ending : Bool → Action
ending true = FlowAction Accept
ending false = FlowAction Reject

-- a term that only accepts or rejects
abbrev pub ends_by : List Condition → Bool → Content
ends_by from accept = record { conditions = from; actions = ending accept ∷ [] }

-- a list: a term an entry, and a last one that rejects
abbrev pub list_terms : Writing → List PlannedEntry → List Content
list_terms w es = map (λ e. ends_by (condition_lines w e.condition) e.permit) es ++ ends_by [] false ∷ []

-- a literal that doesn't say what is wanted rejects
abbrev pub literal_term : Writing → PlannedLiteral → Content
literal_term w l = elim l.wanted [
  | true ↦ ends_by (Policy (w.subroutine (Unless l.test) ∷ []) ∷ []) false
  | false ↦ ends_by (test_lines w l.test) false
]

-- the terms of a subroutine
abbrev pub subroutine_terms : Writing → Subroutine → List Content
subroutine_terms w (OfList l) = list_terms w l.entries
subroutine_terms w (Unless test) = ends_by (test_lines w test) false ∷ ends_by [] true ∷ []
subroutine_terms w (AllOf ls) = map (literal_term w) ls ++ ends_by [] true ∷ []

-- what stands behind a term: nothing, where it has no `from`
abbrev pub behind_from : List Condition → List Content → List Content
behind_from [] rest = []
behind_from (c ∷ cs) rest = rest

-- the terms of steps; behind the last one, where it has a `from`, one that rejects
unfoldable pub step_terms : Writing → List PlannedStep → List Content
step_terms w [] = ends_by [] false ∷ []
step_terms w (s ∷ ss) = record { conditions = from_of w s.guard; actions = actions_of w s.changes ++ ending s.accept ∷ [] } ∷ behind_from (from_of w s.guard) (step_terms w ss)
