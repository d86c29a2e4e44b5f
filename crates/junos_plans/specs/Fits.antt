-- Planned steps that a text of Junos can say: each value of their conditions and changes lies where a text can say it.
use Rattle.std.specs.Prelude.{◌≡◌, ℕ, ◌≤◌, ◌<◌, ◌^◌, Bool, true, ◌==◌, List, length, Option, Some, None}
use Rattle.std.specs.List.{AllByRecursion, IsDistinct}
use Rattle.route_types.specs.Address.{IsMasked}
use Rattle.route_types.specs.Community.{RectParts}
use Rattle.route_types.specs.declared.address.Address.{Address}
use Rattle.route_types.specs.declared.address.Family.TheVariants.{V4}
use Rattle.route_types.specs.declared.community.CommChange.{CommChange}
use Rattle.route_types.specs.declared.community.Community.{Community}
use Rattle.prefix_sets.specs.Range.{RangeParts}
use Rattle.aspath_text.specs.JunosRead.{junos_pattern_in}
use Rattle.path_patterns.specs.declared.items.TokenPattern.{TokenPattern}
use Rattle.policy_core.specs.Ranges.{address_in_range}
use Rattle.policy_core.specs.Sayable.{is_plain, hop_in_range}
use Rattle.junos_plans.specs.Apart.{AreApart}
use Rattle.junos_plans.specs.declared.changes.PlannedChanges.{PlannedChanges}
use Rattle.junos_plans.specs.declared.condition.PlannedCondition.{PlannedCondition}
use Rattle.junos_plans.specs.declared.condition.PlannedCondition.TheVariants.{Anything, Destination, NextHop, Path, Communities, Med, LocalPreference, Origin}
use Rattle.junos_plans.specs.declared.condition.PlannedEntry.{PlannedEntry}
use Rattle.junos_plans.specs.declared.condition.PlannedList.{PlannedList}
use Rattle.junos_plans.specs.declared.condition.PlannedTest.{PlannedTest}
use Rattle.junos_plans.specs.declared.condition.PlannedTest.TheVariants.{Asked, Listed}
use Rattle.junos_plans.specs.declared.step.PlannedGuard.{PlannedGuard}
use Rattle.junos_plans.specs.declared.step.PlannedLiteral.{PlannedLiteral}
use Rattle.junos_plans.specs.declared.step.PlannedStep.{PlannedStep}

-- ---- values

-- a number of 32 bits
abbrev pub FitsNumber : ℕ → Type 0
FitsNumber n = n < 2 ^ 32

-- one or more, each of which fits
abbrev pub SomeFit : {A : Type 0} → (A → Type 0) → List A → Type 0
SomeFit P xs = (1 ≤ length xs) × AllByRecursion P xs

-- an IPv4 address
abbrev pub FitsAddress : Address → Type 0
FitsAddress a = address_in_range a ≡ true

-- an IPv4 prefix, and lengths that rise from its own to 32
pub record FitsRange (x : RangeParts) : Type 0 where
  pub family : x.prefix.address.family ≡ V4
  pub masked : IsMasked x.prefix.address x.prefix.length
  pub least : x.prefix.length ≤ x.least
  pub rises : x.least ≤ x.most
  pub most : x.most ≤ 32

-- the text spells a Junos pattern
abbrev pub FitsText : List ℕ → Type 0
FitsText text = (p : TokenPattern) × (junos_pattern_in text ≡ Some p)

-- two halves of 16 bits, each one number or all numbers
pub record FitsMember (r : RectParts) : Type 0 where
  pub plain : is_plain r ≡ true
  pub high : r.high_least ≤ r.high_most
  pub low : r.low_least ≤ r.low_most
  pub high_most : r.high_most ≤ 65535
  pub low_most : r.low_most ≤ 65535

-- a community is a number of 32 bits
abbrev pub FitsCommunity : Community → Type 0
FitsCommunity c = FitsNumber c.0

-- ---- conditions

-- the values of a condition
abbrev pub FitsValues : PlannedCondition → Type 0
FitsValues Anything = Unit {0}
FitsValues (Destination ranges) = SomeFit FitsRange ranges
FitsValues (NextHop hops) = SomeFit FitsAddress hops
FitsValues (Path texts) = SomeFit FitsText texts
FitsValues (Communities sets) = SomeFit (SomeFit FitsMember) sets
FitsValues (Med n) = FitsNumber n
FitsValues (LocalPreference n) = FitsNumber n
FitsValues (Origin o) = Unit {0}

-- of route-filters no prefix contains another
abbrev pub IsApart : PlannedCondition → Type 0
IsApart (Destination ranges) = AreApart ranges
IsApart _ = Unit {0}

-- a condition
abbrev pub FitsCondition : PlannedCondition → Type 0
FitsCondition c = FitsValues c × IsApart c

-- a term of a list
abbrev pub FitsEntry : PlannedEntry → Type 0
FitsEntry e = FitsCondition e.condition

-- a list
abbrev pub FitsList : PlannedList → Type 0
FitsList l = AllByRecursion FitsEntry l.entries

-- what a literal asks
abbrev pub FitsTest : PlannedTest → Type 0
FitsTest (Asked c) = FitsCondition c
FitsTest (Listed ls) = SomeFit FitsList ls

abbrev pub FitsLiteral : PlannedLiteral → Type 0
FitsLiteral l = FitsTest l.test

-- ---- guards

-- the kind of a condition
abbrev pub kind_of : PlannedCondition → ℕ
kind_of Anything = 0
kind_of (Destination ranges) = 1
kind_of (NextHop hops) = 2
kind_of (Path texts) = 3
kind_of (Communities sets) = 4
kind_of (Med n) = 5
kind_of (LocalPreference n) = 6
kind_of (Origin o) = 7

-- two conditions are of one kind
abbrev pub same_kind : PlannedCondition → PlannedCondition → Bool
same_kind c d = kind_of c == kind_of d

-- what a `from` asks: its conditions are of different kinds
pub record FitsGuard (g : PlannedGuard) : Type 0 where
  pub conditions : AllByRecursion FitsCondition g.conditions
  pub different : IsDistinct same_kind g.conditions
  pub literals : AllByRecursion FitsLiteral g.literals

-- ---- changes

-- a value, if there is one
abbrev pub FitsValue : {A : Type 0} → (A → Type 0) → Option A → Type 0
FitsValue P None = Unit {0}
FitsValue P (Some x) = P x

-- a change of the communities
pub record FitsChange (c : CommChange) : Type 0 where
  pub removed : AllByRecursion FitsMember c.removed
  pub added : AllByRecursion FitsCommunity c.added

-- what a step changes
pub record FitsChanges (p : PlannedChanges) : Type 0 where
  pub local_preference : FitsValue FitsNumber p.local_preference
  pub med : FitsValue FitsNumber p.med
  pub next_hop : FitsValue (λ h. hop_in_range h ≡ true) p.next_hop
  pub prepended : AllByRecursion FitsNumber p.prepended
  pub communities : FitsValue FitsChange p.communities

-- ---- steps

-- a step
pub record FitsStep (s : PlannedStep) : Type 0 where
  pub guard : FitsGuard s.guard
  pub changes : FitsChanges s.changes

-- each of the steps
abbrev pub FitsSteps : List PlannedStep → Type 0
FitsSteps steps = AllByRecursion FitsStep steps
