-- The statements of planned steps (Cisco IOS XR Routing Configuration Guide, 'Implementing Routing Policy'): each step with a
-- guard is `if C then`, its actions in one order, `done` or `drop`, and `endif`; the first step without a guard is its actions
-- and `done` or `drop`, and nothing follows it.
use Rattle.std.specs.Prelude.{ℕ, ◌+◌, ◌/◌, ◌%◌, ◌^◌, ◌==◌, ◌&&◌, Bool, true, false, nat_lt, List, [], ◌∷◌, ◌++◌, map, Option, Some, None}
use Rattle.std.specs.List.{list_any}
use Rattle.route_types.specs.Community.{RectParts}
use Rattle.route_types.specs.declared.community.CommChange.{CommChange}
use Rattle.route_types.specs.declared.community.Community.{Community}
use Rattle.rpl_words.specs.Conditions.{terms_of}
use Rattle.rpl_words.specs.declared.number.RplNumber.TheVariants.{Fixed}
use Rattle.rpl_words.specs.declared.number.RplSet.TheVariants.{Listed}
use Rattle.rpl_forms.specs.declared.item.Action.{Action}
use Rattle.rpl_forms.specs.declared.item.Action.TheVariants.{SetMed, SetLocalPreference, SetWeight, SetOrigin, SetNextHop, SetCommunity, DeleteCommunity, Prepend}
use Rattle.rpl_forms.specs.declared.item.PolicyStatement.{PolicyStatement}
use Rattle.rpl_forms.specs.declared.item.PolicyStatement.TheVariants.{If, EndIf, Done, Drop, Act}
use Rattle.rpl_forms.specs.declared.item.RplForm.{RplForm}
use Rattle.rpl_forms.specs.declared.item.RplForm.TheVariants.{Statement}
use Rattle.rpl_plans.specs.declared.actions.PlannedActions.{PlannedActions}
use Rattle.rpl_plans.specs.declared.step.PlannedLiteral.{PlannedLiteral}
use Rattle.rpl_plans.specs.declared.step.PlannedStep.{PlannedStep}
use Rattle.rpl_layout.specs.Guards.{Writing, guard_condition}

-- ---- actions

-- the action of a value, if there is one
abbrev pub set_to : {A : Type 0} → (A → Action) → Option A → List Action
set_to make None = []
set_to make (Some x) = make x ∷ []

-- a number before the path, so many times
abbrev pub prepend_of : ℕ → ℕ → Action
prepend_of n times = Prepend (record { number = Fixed n; count = Fixed times })

-- the number has stood so many times, and one action can say it once more
abbrev pub goes_on : ℕ → ℕ → ℕ → Bool
goes_on m times n = (m == n) && nat_lt times 63

-- equal numbers one behind another as one action, of at most 63
unfoldable pub prepends_from : ℕ → ℕ → List ℕ → List Action
prepends_from m times [] = prepend_of m times ∷ []
prepends_from m times (n ∷ ns) = elim (goes_on m times n) [ true ↦ prepends_from m (times + 1) ns | false ↦ prepend_of m times ∷ prepends_from n 1 ns ]

abbrev pub prepends_of : List ℕ → List Action
prepends_of [] = []
prepends_of (n ∷ ns) = prepends_from n 1 ns

-- the rectangle has every community
abbrev pub is_all : RectParts → Bool
is_all r = (r.high_least == 0) && (r.high_most == 65535) && (r.low_least == 0) && (r.low_most == 65535)

-- the rectangle of a community alone
abbrev pub rect_of : ℕ → ℕ → RectParts
rect_of high low = record { high_least = high; high_most = high; low_least = low; low_most = low }

-- deletion, if there is anything to delete
abbrev pub deletion : List RectParts → List Action
deletion [] = []
deletion (r ∷ rs) = DeleteCommunity (Listed (r ∷ rs)) ∷ []

-- replacement, or addition, if there is anything to set
abbrev pub setting : Bool → List RectParts → List Action
setting additive [] = []
setting additive (r ∷ rs) = SetCommunity (record { set = Listed (r ∷ rs); additive = additive }) ∷ []

-- a removal of everything as replacement or, where nothing is added, as deletion of everything
abbrev pub replacement : RectParts → List RectParts → List Action
replacement all [] = deletion (all ∷ [])
replacement all (r ∷ rs) = setting false (r ∷ rs)

-- every community
abbrev pub everything : RectParts
everything = record { high_least = 0; high_most = 65535; low_least = 0; low_most = 65535 }

-- the rectangle that has this community alone
abbrev pub rect_alone : Community → RectParts
rect_alone c = rect_of (c.0 / 2 ^ 16) (c.0 % 2 ^ 16)

-- what is done to the communities
abbrev pub change_actions : CommChange → List Action
change_actions c = elim (list_any is_all c.removed) [
  | true ↦ replacement everything (map rect_alone c.added)
  | false ↦ deletion c.removed ++ setting true (map rect_alone c.added)
]

abbrev pub community_actions : Option CommChange → List Action
community_actions None = []
community_actions (Some c) = change_actions c

-- the actions in their order: local preference, MED, weight, origin, next hop, prepends, communities
abbrev pub actions_of : PlannedActions → List Action
actions_of a =
    set_to (λ n. SetLocalPreference (Fixed n)) a.local_preference
    ++ (set_to (λ n. SetMed (Fixed n)) a.med
    ++ (set_to (λ n. SetWeight (Fixed n)) a.weight
    ++ (set_to SetOrigin a.origin ++ (set_to SetNextHop a.next_hop ++ (prepends_of a.prepended ++ community_actions a.communities)))))

-- ---- steps

-- `done`, or `drop`
abbrev pub ending : Bool → PolicyStatement
ending true = Done
ending false = Drop

-- the actions, and how the step ends
abbrev pub body_of : List Action → Bool → List RplForm
body_of xs accept = map (λ a. Statement (Act a)) xs ++ Statement (ending accept) ∷ []

-- a step with this guard, and what follows it
abbrev pub step_forms : Writing → List PlannedLiteral → List RplForm → List RplForm → List RplForm
step_forms written [] body following = body
step_forms written (l ∷ ls) body following = Statement (If (terms_of (guard_condition written l ls))) ∷ (body ++ Statement EndIf ∷ following)

-- the statements of steps
unfoldable pub steps_forms : Writing → List PlannedStep → List RplForm
steps_forms written [] = []
steps_forms written (s ∷ ss) = step_forms written s.guard (body_of (actions_of s.actions) s.accept) (steps_forms written ss)
