-- The meaning of a chain of Junos policies on a route (Junos OS Routing Policies, Firewall Filters, and Traffic Policers
-- User Guide, 'Routing Policies', 'Routing Policy Actions', 'Policy Subroutines'): the policies of the chain run in order,
-- each its terms in order. Tests read the route as changed so far. That the route is accepted behind the last policy, in
-- whatever direction, and that a subroutine accepts past its end, is this project's own.
use Rattle.std.specs.Prelude.{ℕ, zero, suc, ◌*◌, ◌+◌, ◌^◌, Bool, true, false, not, List, [], ◌∷◌, ◌++◌, filter, map}
use Rattle.route_types.specs.Community.{RectParts, fits, set_of}
use Rattle.route_types.specs.Sets.{fits_some}
use Rattle.route_types.specs.Route.{RouteParts}
use Rattle.route_types.specs.Change.{changed}
use Rattle.route_types.specs.declared.community.Community.{Community as OneCommunity}
use Rattle.route_types.specs.declared.change.Change.TheVariants.{NextHop as ToNextHop, Origin as ToOrigin, LocalPreference as ToLocalPreference, Med as ToMed}
use Rattle.route_types.specs.declared.route.Outcome.{Outcome}
use Rattle.route_types.specs.declared.route.Outcome.TheVariants.{Reject as Rejected, Accept as Accepted}
use Rattle.policy_calls.specs.Depth.{most_calls}
use Rattle.junos_tree.specs.Terms.{Content}
use Rattle.junos_tree.specs.declared.item.Action.{Action}
use Rattle.junos_tree.specs.declared.item.Action.TheVariants.{Flow as FlowAction, Metric, LocalPreference, Origin, NextHop, Community, Prepend}
use Rattle.junos_tree.specs.declared.item.CommunityVerb.{CommunityVerb}
use Rattle.junos_tree.specs.declared.item.CommunityVerb.TheVariants.{Set, Add, Delete}
use Rattle.junos_tree.specs.declared.item.Flow.{Flow}
use Rattle.junos_tree.specs.declared.item.Flow.TheVariants.{Accept, Reject, NextTerm, NextPolicy}
use Rattle.junos_tree.specs.declared.item.JunosForm.{JunosForm}
use Rattle.junos_meaning.specs.Sets.{community_members, policy_terms}
use Rattle.junos_meaning.specs.Conditions.{from_holds}

-- ---- actions

-- the community that a member stands for: its least one, where it stands for more
abbrev pub community_of : RectParts → OneCommunity
community_of r = record { 0 = r.high_least * 2 ^ 16 + r.low_least }

-- what is done with the communities of a route by the members of one
abbrev pub with_members : CommunityVerb → List RectParts → List OneCommunity → List OneCommunity
with_members Set ms cs = set_of (map community_of ms)
with_members Add ms cs = set_of (cs ++ map community_of ms)
with_members Delete ms cs = filter (λ c. not (fits_some fits ms c)) cs

-- what an action makes of a route
abbrev pub acted : List JunosForm → Action → RouteParts → RouteParts
acted all (FlowAction f) r = r
acted all (Metric n) r = changed (ToMed n) r
acted all (LocalPreference n) r = changed (ToLocalPreference n) r
acted all (Origin o) r = changed (ToOrigin o) r
acted all (NextHop h) r = changed (ToNextHop h) r
acted all (Community c) r = record r { communities = with_members c.verb (community_members all c.community) r.communities }
acted all (Prepend ns) r = record r { path = ns ++ r.path }

-- what the actions of a term make of a route, in the order in which they are written, wherever the flow action stands
unfoldable pub acted_by : List JunosForm → List Action → RouteParts → RouteParts
acted_by all [] r = r
acted_by all (a ∷ actions) r = acted_by all actions (acted all a r)

-- an action's flow, or else that of those behind it
abbrev pub flow_in : Action → Flow → Flow
flow_in (FlowAction f) rest = f
flow_in _ rest = rest

-- where the run goes behind a term with these actions: to the next term, where none says it
unfoldable pub flow_of : List Action → Flow
flow_of [] = NextTerm
flow_of (a ∷ actions) = flow_in a (flow_of actions)

-- ---- subroutines

-- what a term that holds answers, and the terms behind it
abbrev pub answer_behind : Flow → Bool → Bool
answer_behind Accept rest = true
answer_behind Reject rest = false
answer_behind NextTerm rest = rest
answer_behind NextPolicy rest = true

-- what the terms of a subroutine answer, by whether a `from` holds: they change nothing, and past their end accept
unfoldable pub terms_accept : (Content → Bool) → List Content → Bool
terms_accept holds [] = true
terms_accept holds (t ∷ terms) = elim (holds t) [ true ↦ answer_behind (flow_of t.actions) (terms_accept holds terms) | false ↦ terms_accept holds terms ]

-- the policy of this name, run by itself on a route, accepts it; so many calls may stand one in the other from it on. One
-- more, which no policy in profile meets, accepts.
unfoldable pub accepts : ℕ → List JunosForm → RouteParts → List ℕ → Bool
accepts zero all r name = true
accepts (suc calls) all r name = terms_accept (λ t. from_holds all (accepts calls all r) r t.conditions) (policy_terms all name)

-- ---- chains

-- how the terms of a policy end: the chain goes on with its next policy, or has ended
pub data Fate : Type 0 where
  Goes : RouteParts → Fate
  Ends : Outcome → Fate

-- what a term that holds makes of a route, and the terms behind it
abbrev pub fate_behind : Flow → (RouteParts → Fate) → RouteParts → Fate
fate_behind Accept rest r = Ends (Accepted r)
fate_behind Reject rest r = Ends Rejected
fate_behind NextTerm rest r = rest r
fate_behind NextPolicy rest r = Goes r

-- a term holds for a route
abbrev pub term_holds : List JunosForm → RouteParts → Content → Bool
term_holds all r t = from_holds all (accepts most_calls all r) r t.conditions

-- the run over the terms of a policy: one that doesn't hold is passed over, one that holds acts, and then goes where it says
unfoldable pub run_terms : List JunosForm → List Content → RouteParts → Fate
run_terms all [] r = Goes r
run_terms all (t ∷ terms) r = elim (term_holds all r t) [ true ↦ fate_behind (flow_of t.actions) (run_terms all terms) (acted_by all t.actions r) | false ↦ run_terms all terms r ]

-- the chain goes on where a policy does
abbrev pub then_on : (RouteParts → Outcome) → Fate → Outcome
then_on rest (Goes r) = rest r
then_on rest (Ends outcome) = outcome

-- the meaning of a chain of policies of these names on a route
unfoldable pub junos_meaning : List JunosForm → List (List ℕ) → RouteParts → Outcome
junos_meaning all [] r = Accepted r
junos_meaning all (name ∷ names) r = then_on (junos_meaning all names) (run_terms all (policy_terms all name) r)
