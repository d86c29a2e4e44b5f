-- The meaning of an RPL policy on a route (Cisco IOS XR Routing Configuration Guide, 'Implementing Routing
-- Policy'): statements run in order, tests read the route as it arrived, an attribute action and `pass` take the
-- ticket, `done` accepts, `drop` rejects, and at the end the ticket decides. That `set community` without `additive`
-- replaces the whole set, the well-known communities included, is this project's own.
use Rattle.std.specs.Prelude.{ℕ, zero, suc, ◌+◌, ◌*◌, ◌-◌, ◌^◌, Bool, true, false, not, List, [], ◌∷◌, ◌++◌, filter, map}
use Rattle.route_types.specs.Community.{RectParts, fits, set_of}
use Rattle.route_types.specs.Sets.{fits_some}
use Rattle.route_types.specs.Route.{RouteParts}
use Rattle.route_types.specs.Change.{changed}
use Rattle.route_types.specs.declared.community.Community.{Community}
use Rattle.route_types.specs.declared.change.Change.TheVariants.{NextHop, Origin, LocalPreference, Med, Weight}
use Rattle.route_types.specs.declared.route.Outcome.{Outcome}
use Rattle.route_types.specs.declared.route.Outcome.TheVariants.{Reject, Accept}
use Rattle.policy_calls.specs.Depth.{most_calls}
use Rattle.rpl_words.specs.declared.condition.Term.{Term}
use Rattle.rpl_forms.specs.declared.item.Action.{Action}
use Rattle.rpl_forms.specs.declared.item.Action.TheVariants.{SetMed, SetLocalPreference, SetWeight, SetOrigin, SetNextHop, SetCommunity, DeleteCommunity, Prepend}
use Rattle.rpl_forms.specs.declared.item.Apply.{Apply}
use Rattle.rpl_forms.specs.declared.item.RplForm.{RplForm}
use Rattle.rpl_tree.specs.Nesting.{Steps, Stop, TakeTicket, AcceptNow, RejectNow, Act, Call, Branch, Level, Rest, nested}
use Rattle.rpl_reader.specs.Profile.{PolicyParts}
use Rattle.rpl_meaning.specs.Sets.{Bindings, value, members, community_set_named, community_in, policy_named, block_at, below, handed, unbound, parameters_of}
use Rattle.rpl_meaning.specs.Conditions.{test_holds, terms_hold}

-- ---- actions

-- the community of a rectangle that is one: its least one
abbrev pub community_of : RectParts → Community
community_of r = record { 0 = r.high_least * 2 ^ 16 + r.low_least }

-- so many times the number
unfoldable pub repeated : ℕ → ℕ → List ℕ
repeated n zero = []
repeated n (suc k) = n ∷ repeated n k

-- what an action makes of a route
abbrev pub acted : List RplForm → Bindings → Action → RouteParts → RouteParts
acted all bs (SetMed n) r = changed (Med (value (2 ^ 32 - 1) bs n)) r
acted all bs (SetLocalPreference n) r = changed (LocalPreference (value (2 ^ 32 - 1) bs n)) r
acted all bs (SetWeight n) r = changed (Weight (value 65535 bs n)) r
acted all bs (SetOrigin o) r = changed (Origin o) r
acted all bs (SetNextHop h) r = changed (NextHop h) r
acted all bs (SetCommunity s) r = record r { communities = set_of (elim s.additive [ true ↦ r.communities | false ↦ [] ] ++ map community_of (members community_set_named community_in all bs s.set)) }
acted all bs (DeleteCommunity s) r = record r { communities = filter (λ c. not (fits_some fits (members community_set_named community_in all bs s) c)) r.communities }
acted all bs (Prepend p) r = record r { path = repeated (value (2 ^ 32 - 1) bs p.number) (value 255 bs p.count) ++ r.path }

-- ---- runs

-- whether the ticket is held, and the route changed so far
pub record State : Type 0 where
  pub ticket : Bool
  pub route : RouteParts

-- how statements end: the run goes on behind them, or it has ended
pub data Fate : Type 0 where
  Goes : State → Fate
  Ends : Outcome → Fate

-- what stands behind runs where the run goes on
abbrev pub then_on : (State → Fate) → Fate → Fate
then_on next (Goes s) = next s
then_on next (Ends o) = Ends o

-- with the ticket, and this route
abbrev pub taken : RouteParts → State
taken r = record { ticket = true; route = r }

-- the run over statements: how a condition answers, what an action makes of a route, and how an applied policy ends
unfoldable pub run : (List Term → Bool) → (Action → RouteParts → RouteParts) → (Apply → State → Fate) → Steps → State → Fate
run holds act call Stop s = Goes s
run holds act call (TakeTicket next) s = run holds act call next (taken s.route)
run holds act call AcceptNow s = Ends (Accept s.route)
run holds act call RejectNow s = Ends Reject
run holds act call (Act a next) s = run holds act call next (taken (act a s.route))
run holds act call (Call a next) s = then_on (run holds act call next) (call a s)
run holds act call (Branch c these those next) s = then_on (run holds act call next) (elim (holds c) [ true ↦ run holds act call these s | false ↦ run holds act call those s ])

-- what stands behind open `if`s, the innermost first
unfoldable pub run_levels : (Steps → State → Fate) → List Level → State → Fate
run_levels go [] s = Goes s
run_levels go (l ∷ ls) s = then_on (run_levels go ls) (go l.after s)

-- what statements say from here on
abbrev pub run_rest : (Steps → State → Fate) → Rest → State → Fate
run_rest go r s = then_on (run_levels go r.around) (go r.here s)

-- what stands in the block of a policy, below its first line
abbrev pub body_of : List ℕ → List RplForm → List RplForm
body_of name all = below (block_at policy_named name all)

-- what the parameters of an applied policy stand for
abbrev pub handed_on : List RplForm → Bindings → Apply → Bindings
handed_on all bs a = handed bs (parameters_of (block_at policy_named a.policy all)) a.arguments

-- the run over the statements of a policy, whose parameters stand for these words, with so many levels of
-- `apply` below it: one level deeper, which no policy in profile meets, an `apply` does nothing
unfoldable pub run_policy : ℕ → List RplForm → RouteParts → Bindings → List ℕ → State → Fate
run_policy zero all arrived bs name s = Goes s
run_policy (suc levels) all arrived bs name s =
    run_rest
    (run (terms_hold (test_holds all bs arrived) []) (acted all bs) (λ a s. run_policy levels all arrived (handed_on all bs a) a.policy s))
    (nested (body_of name all)) s

-- before anything ran: without the ticket, the route as it arrived
abbrev pub arriving : RouteParts → State
arriving r = record { ticket = false; route = r }

-- at the end the ticket decides
abbrev pub at_end : Fate → Outcome
at_end (Goes s) = elim s.ticket [ true ↦ Accept s.route | false ↦ Reject ]
at_end (Ends o) = o

-- the meaning of the policy of this name on a route: it, and the most levels of `apply` below it
unfoldable pub rpl_meaning : List RplForm → List ℕ → RouteParts → Outcome
rpl_meaning all name r = at_end (run_policy (suc most_calls) all r unbound name (arriving r))

-- of the names of a policy the first one
abbrev pub first_name : List (List ℕ) → List ℕ
first_name [] = []
first_name (name ∷ names) = name

-- the name that a policy stands under: it has one
abbrev pub name_of : PolicyParts → List ℕ
name_of p = first_name p.names
