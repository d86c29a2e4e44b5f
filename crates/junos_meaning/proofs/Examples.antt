-- Worked examples that the checker computes.
use Rattle.std.proofs.Common.{◌≡◌, refl, true, false, List, [], ◌∷◌, ℕ}
use Rattle.std.specs.Prelude.{codes}
use Rattle.route_types.specs.Address.{PrefixParts}
use Rattle.route_types.specs.Route.{RouteParts}
use Rattle.route_types.specs.declared.address.Family.TheVariants.{V4}
use Rattle.route_types.specs.declared.community.Community.{Community}
use Rattle.route_types.specs.declared.route.NextHop.TheVariants.{Own}
use Rattle.route_types.specs.declared.route.Origin.TheVariants.{Igp}
use Rattle.route_types.specs.declared.route.Outcome.TheVariants.{Reject, Accept}
use Rattle.junos_tree.specs.Terms.{own_forms, parts}
use Rattle.junos_tree.specs.declared.item.Action.{Action}
use Rattle.junos_tree.specs.declared.item.Action.TheVariants.{Flow as Goes, Metric as SetMetric, Community as ChangeCommunities, Prepend}
use Rattle.junos_tree.specs.declared.item.CommunityVerb.TheVariants.{Add}
use Rattle.junos_tree.specs.declared.item.Condition.{Condition}
use Rattle.junos_tree.specs.declared.item.Condition.TheVariants.{Metric as HasMetric, Community as HasCommunity, RouteFilter, Policy as Calls}
use Rattle.junos_tree.specs.declared.item.Flow.TheVariants.{Accept as ToAccept, Reject as ToReject, NextTerm, NextPolicy}
use Rattle.junos_tree.specs.declared.item.JunosForm.{JunosForm}
use Rattle.junos_tree.specs.declared.item.JunosForm.TheVariants.{Community as CommunityForm, Policy, Term, Condition as IsCondition, Action as IsAction}
use Rattle.junos_meaning.specs.Sets.{defined_at}
use Rattle.junos_meaning.specs.Conditions.{from_holds}
use Rattle.junos_meaning.specs.Meaning.{acted_by, flow_of, terms_accept, accepts, run_terms, junos_meaning}

-- a condition and an action of a named term
abbrev from : Condition → JunosForm
from c = IsCondition (record { unnamed = false; condition = c })

abbrev then : Action → JunosForm
then a = IsAction (record { unnamed = false; action = a })

-- an action directly in a policy
abbrev at_last : Action → JunosForm
at_last a = IsAction (record { unnamed = true; action = a })

abbrev prefix : ℕ → ℕ → PrefixParts
prefix bits length = record { address = record { family = V4; bits = bits }; length = length }

abbrev route : ℕ → ℕ → RouteParts
route bits length = record { prefix = prefix bits length; next_hop = Own; path = []; origin = Igp; local_preference = 100; med = 0; weight = 0; communities = [] }

-- ---- of the route-filters the longest decides

-- 10.0.0.0/8 or longer, and of 10.1.0.0/16 itself alone
abbrev filters : List JunosForm
filters =
    Policy (codes "IMP")
    ∷ Term (codes "a")
    ∷ from (RouteFilter (record { prefix = prefix 167772160 8; least = 8; most = 32 }))
    ∷ from (RouteFilter (record { prefix = prefix 167837696 16; least = 16; most = 16 }))
    ∷ then (Goes ToAccept)
    ∷ at_last (Goes ToReject)
    ∷ []

-- 10.1.0.0/16 is accepted
accepts_itself : junos_meaning filters (codes "IMP" ∷ []) (route 167837696 16) ≡ Accept (route 167837696 16)
unfolding junos_meaning run_terms acted_by flow_of from_holds defined_at own_forms parts
accepts_itself = refl

-- 10.1.5.0/24 is rejected
rejects_within : junos_meaning filters (codes "IMP" ∷ []) (route 167838976 24) ≡ Reject
unfolding junos_meaning run_terms acted_by flow_of from_holds defined_at own_forms parts
rejects_within = refl

-- 10.2.0.0/16 is accepted
accepts_beside : junos_meaning filters (codes "IMP" ∷ []) (route 167903232 16) ≡ Accept (route 167903232 16)
unfolding junos_meaning run_terms acted_by flow_of from_holds defined_at own_forms parts
accepts_beside = refl

-- 172.16.0.0/12 is rejected
rejects_outside : junos_meaning filters (codes "IMP" ∷ []) (route 2886729728 12) ≡ Reject
unfolding junos_meaning run_terms acted_by flow_of from_holds defined_at own_forms parts
rejects_outside = refl

-- ---- tests read the route as changed so far

-- within 10.0.0.0/8 the tag 65001:7 is added, and what has it is accepted
abbrev tags : List JunosForm
tags =
    CommunityForm (record { name = codes "TAG"; members = record { high_least = 65001; high_most = 65001; low_least = 7; low_most = 7 } ∷ [] })
    ∷ Policy (codes "T")
    ∷ Term (codes "a")
    ∷ from (RouteFilter (record { prefix = prefix 167772160 8; least = 8; most = 32 }))
    ∷ then (ChangeCommunities (record { verb = Add; community = codes "TAG" }))
    ∷ then (Goes NextTerm)
    ∷ Term (codes "b")
    ∷ from (HasCommunity (codes "TAG" ∷ []))
    ∷ then (Goes ToAccept)
    ∷ at_last (Goes ToReject)
    ∷ []

abbrev tag : Community
tag = record { 0 = 4259905543 }

-- 10.1.0.0/16 without communities is accepted with the tag
tagged : junos_meaning tags (codes "T" ∷ []) (route 167837696 16) ≡ Accept (record (route 167837696 16) { communities = tag ∷ [] })
unfolding junos_meaning run_terms acted_by flow_of from_holds defined_at own_forms parts
tagged = refl

-- 172.16.0.0/12 without communities is rejected
untagged : junos_meaning tags (codes "T" ∷ []) (route 2886729728 12) ≡ Reject
unfolding junos_meaning run_terms acted_by flow_of from_holds defined_at own_forms parts
untagged = refl

-- with the tag it is accepted as it is
had_it : junos_meaning tags (codes "T" ∷ []) (record (route 2886729728 12) { communities = tag ∷ [] }) ≡ Accept (record (route 2886729728 12) { communities = tag ∷ [] })
unfolding junos_meaning run_terms acted_by flow_of from_holds defined_at own_forms parts
had_it = refl

-- ---- a chain, accepted past its end

-- MED 5 becomes 6 and goes on with the next policy, which rejects MED 5
abbrev chain : List JunosForm
chain =
    Policy (codes "A")
    ∷ Term (codes "t")
    ∷ from (HasMetric 5)
    ∷ then (SetMetric 6)
    ∷ then (Goes NextPolicy)
    ∷ Policy (codes "B")
    ∷ Term (codes "t")
    ∷ from (HasMetric 5)
    ∷ then (Goes ToReject)
    ∷ []

-- MED 5 is accepted with MED 6
changed_to_6 : junos_meaning chain (codes "A" ∷ codes "B" ∷ []) (record (route 167772160 8) { med = 5 }) ≡ Accept (record (route 167772160 8) { med = 6 })
unfolding junos_meaning run_terms acted_by flow_of from_holds defined_at own_forms parts
changed_to_6 = refl

-- MED 4 is accepted as it is
stays_4 : junos_meaning chain (codes "A" ∷ codes "B" ∷ []) (record (route 167772160 8) { med = 4 }) ≡ Accept (record (route 167772160 8) { med = 4 })
unfolding junos_meaning run_terms acted_by flow_of from_holds defined_at own_forms parts
stays_4 = refl

-- the other way round MED 5 is rejected
rejects_5 : junos_meaning chain (codes "B" ∷ codes "A" ∷ []) (record (route 167772160 8) { med = 5 }) ≡ Reject
unfolding junos_meaning run_terms acted_by flow_of from_holds defined_at own_forms parts
rejects_5 = refl

-- ---- actions count wherever `accept` stands

abbrev prepends : List JunosForm
prepends = Policy (codes "P") ∷ Term (codes "a") ∷ then (Goes ToAccept) ∷ then (Prepend (65001 ∷ [])) ∷ []

-- every route is accepted with 65001 before its path
prepended : junos_meaning prepends (codes "P" ∷ []) (record (route 167772160 8) { path = 2 ∷ [] }) ≡ Accept (record (route 167772160 8) { path = 65001 ∷ 2 ∷ [] })
unfolding junos_meaning run_terms acted_by flow_of from_holds defined_at own_forms parts
prepended = refl

-- ---- subroutines

-- what S accepts is rejected: S rejects MED 5, and accepts past its end
abbrev calling : List JunosForm
calling =
    Policy (codes "M")
    ∷ Term (codes "t")
    ∷ from (Calls (codes "S" ∷ []))
    ∷ then (Goes ToReject)
    ∷ Policy (codes "S")
    ∷ Term (codes "t")
    ∷ from (HasMetric 5)
    ∷ then (Goes ToReject)
    ∷ []

-- MED 5 is accepted
not_called : junos_meaning calling (codes "M" ∷ []) (record (route 167772160 8) { med = 5 }) ≡ Accept (record (route 167772160 8) { med = 5 })
unfolding junos_meaning run_terms acted_by flow_of from_holds accepts terms_accept defined_at own_forms parts
not_called = refl

-- MED 4 is rejected
called : junos_meaning calling (codes "M" ∷ []) (record (route 167772160 8) { med = 4 }) ≡ Reject
unfolding junos_meaning run_terms acted_by flow_of from_holds accepts terms_accept defined_at own_forms parts
called = refl
