-- Planned steps that a text of RPL can say: each value of their tests and actions lies where a text can say it.
use Rattle.std.specs.Prelude.{◌≡◌, ℕ, ◌≤◌, ◌<◌, ◌^◌, true, List, Option, Some, None}
use Rattle.std.specs.List.{AllByRecursion}
use Rattle.route_types.specs.Address.{IsMasked}
use Rattle.route_types.specs.Community.{RectParts}
use Rattle.route_types.specs.declared.address.Family.TheVariants.{V4}
use Rattle.route_types.specs.declared.community.CommChange.{CommChange}
use Rattle.route_types.specs.declared.community.Community.{Community}
use Rattle.prefix_sets.specs.Range.{RangeParts}
use Rattle.aspath_text.specs.IosRead.{ios_pattern_in}
use Rattle.path_patterns.specs.declared.pattern.IosBranch.{IosBranch}
use Rattle.policy_core.specs.Sayable.{hop_in_range}
use Rattle.rpl_plans.specs.declared.actions.PlannedActions.{PlannedActions}
use Rattle.rpl_plans.specs.declared.choice.Choice.{Choice}
use Rattle.rpl_plans.specs.declared.choice.PlannedTerm.{PlannedTerm}
use Rattle.rpl_plans.specs.declared.choice.PlannedTerms.{PlannedTerms}
use Rattle.rpl_plans.specs.declared.step.PlannedLiteral.{PlannedLiteral}
use Rattle.rpl_plans.specs.declared.step.PlannedStep.{PlannedStep}
use Rattle.rpl_plans.specs.declared.test.PlannedTest.{PlannedTest}
use Rattle.rpl_plans.specs.declared.test.PlannedTest.TheVariants.{Destination, NextHop as AsksNextHop, PathIn, MatchesAny, MatchesEvery, NoCommunity, MedIs, MedAtLeast, MedAtMost, Origin}

-- ---- values

-- a number of 32 bits
abbrev pub FitsNumber : ℕ → Type 0
FitsNumber n = n < 2 ^ 32

-- an IPv4 prefix, and lengths that rise from its own to 32
pub record FitsRange (x : RangeParts) : Type 0 where
  pub family : x.prefix.address.family ≡ V4
  pub masked : IsMasked x.prefix.address x.prefix.length
  pub least : x.prefix.length ≤ x.least
  pub rises : x.least ≤ x.most
  pub most : x.most ≤ 32

-- two ranges of numbers of 16 bits, neither of them empty
pub record FitsRect (r : RectParts) : Type 0 where
  pub high : r.high_least ≤ r.high_most
  pub low : r.low_least ≤ r.low_most
  pub high_most : r.high_most ≤ 65535
  pub low_most : r.low_most ≤ 65535

-- a community is a number of 32 bits
abbrev pub FitsCommunity : Community → Type 0
FitsCommunity c = FitsNumber c.0

-- the text spells an IOS pattern
abbrev pub FitsText : List ℕ → Type 0
FitsText text = (p : List IosBranch) × (ios_pattern_in text ≡ Some p)

-- ---- guards

-- a test
abbrev pub FitsTest : PlannedTest → Type 0
FitsTest (Destination ranges) = AllByRecursion FitsRange ranges
FitsTest (AsksNextHop ranges) = AllByRecursion FitsRange ranges
FitsTest (PathIn texts) = AllByRecursion FitsText texts
FitsTest (MatchesAny rects) = AllByRecursion FitsRect rects
FitsTest (MatchesEvery rects) = AllByRecursion FitsRect rects
FitsTest NoCommunity = Unit {0}
FitsTest (MedIs n) = FitsNumber n
FitsTest (MedAtLeast n) = FitsNumber n
FitsTest (MedAtMost n) = FitsNumber n
FitsTest (Origin o) = Unit {0}

-- the test of an entry
abbrev pub FitsChoice : Choice → Type 0
FitsChoice c = FitsTest c.test

-- each test of a term
abbrev pub FitsTerm : PlannedTerm → Type 0
FitsTerm t = AllByRecursion FitsTest t.denied × FitsTest t.permitted

-- each term
abbrev pub FitsTerms : PlannedTerms → Type 0
FitsTerms ts = FitsTerm ts.first × AllByRecursion FitsTerm ts.others

-- the terms of a literal
abbrev pub FitsLiteral : PlannedLiteral → Type 0
FitsLiteral l = FitsTerms l.terms

-- ---- actions

-- a value, if there is one
abbrev pub FitsValue : {A : Type 0} → (A → Type 0) → Option A → Type 0
FitsValue P None = Unit {0}
FitsValue P (Some x) = P x

-- a change of the communities
pub record FitsChange (c : CommChange) : Type 0 where
  pub removed : AllByRecursion FitsRect c.removed
  pub added : AllByRecursion FitsCommunity c.added

-- what a step changes
pub record FitsActions (a : PlannedActions) : Type 0 where
  pub local_preference : FitsValue FitsNumber a.local_preference
  pub med : FitsValue FitsNumber a.med
  pub weight : FitsValue (λ n. n < 2 ^ 16) a.weight
  pub next_hop : FitsValue (λ h. hop_in_range h ≡ true) a.next_hop
  pub prepended : AllByRecursion FitsNumber a.prepended
  pub communities : FitsValue FitsChange a.communities

-- ---- steps

-- a step
pub record FitsStep (s : PlannedStep) : Type 0 where
  pub guard : AllByRecursion FitsLiteral s.guard
  pub actions : FitsActions s.actions

-- each of the steps
abbrev pub FitsSteps : List PlannedStep → Type 0
FitsSteps steps = AllByRecursion FitsStep steps
