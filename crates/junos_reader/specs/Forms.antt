-- What a form is: its sort as a number, its kind among the statements of a term, and what it does.
use Rattle.std.specs.Prelude.{ℕ, Bool, true, false, ◌&&◌, ◌||◌, not, ◌==◌, List, [], ◌∷◌, Option, Some, None, bytes_eq}
use Rattle.std.specs.List.{list_any}
use Rattle.route_types.specs.Address.{PrefixParts, width}
use Rattle.route_types.specs.Community.{RectParts}
use Rattle.policy_text.specs.Names.{is_named}
use Rattle.junos_tree.specs.declared.item.StatementSort.{StatementSort}
use Rattle.junos_tree.specs.declared.item.StatementSort.TheVariants.{PrefixList as ListSort, Community as CommunitySort, AsPath as PathSort, Policy as PolicySort, Inner}
use Rattle.junos_tree.specs.declared.item.Condition.{Condition}
use Rattle.junos_tree.specs.declared.item.Condition.TheVariants.{PrefixList as InLists, RouteFilter, ListFilter as InList, Metric as HasMetric, LocalPreference as HasPreference, Origin as HasOrigin}
use Rattle.junos_tree.specs.declared.item.Action.{Action}
use Rattle.junos_tree.specs.declared.item.Action.TheVariants.{Flow as GoesTo, Prepend, Community as ChangesCommunities}
use Rattle.junos_tree.specs.declared.item.Flow.{Flow}
use Rattle.junos_tree.specs.declared.item.Flow.TheVariants.{Accept, Reject, NextPolicy}
use Rattle.junos_tree.specs.declared.item.CommunityVerb.{CommunityVerb}
use Rattle.junos_tree.specs.declared.item.CommunityVerb.TheVariants.{Delete}
use Rattle.junos_tree.specs.declared.item.JunosForm.{JunosForm}
use Rattle.junos_tree.specs.declared.item.JunosForm.TheVariants.{Community as CommunityForm, Term as TermHeader, Condition as IsCondition, Action as IsAction, Other}

-- the sort of an item as a number
abbrev pub sort_code : StatementSort → ℕ
sort_code ListSort = 0
sort_code CommunitySort = 1
sort_code PathSort = 2
sort_code PolicySort = 3
sort_code Inner = 4

-- a statement of no form
abbrev pub has_no_form : JunosForm → Bool
has_no_form (Other o) = true
has_no_form _ = false

-- the header of a term of this name
abbrev pub is_term_of : List ℕ → JunosForm → Bool
is_term_of q (TermHeader name) = bytes_eq q name
is_term_of q _ = false

-- ---- the kinds of statements of a term

-- conditions that may stand once: 0 to 2; tests of the prefix, by the way in which they test it: 4 to 7
abbrev pub kind_of_condition : Condition → Option ℕ
kind_of_condition (HasMetric n) = Some 0
kind_of_condition (HasPreference n) = Some 1
kind_of_condition (HasOrigin o) = Some 2
kind_of_condition (RouteFilter r) = Some 4
kind_of_condition (InLists names) = Some 5
kind_of_condition (InList f) = elim f.or_longer [ true ↦ Some 7 | false ↦ Some 6 ]
kind_of_condition _ = None

-- a flow action may stand once: 3
abbrev pub kind_of_action : Action → Option ℕ
kind_of_action (GoesTo f) = Some 3
kind_of_action _ = None

abbrev pub kind_of : JunosForm → Option ℕ
kind_of (IsCondition c) = kind_of_condition c.condition
kind_of (IsAction a) = kind_of_action a.action
kind_of _ = None

-- the kind is there, and it is this one
abbrev pub is_kind : ℕ → Option ℕ → Bool
is_kind k None = false
is_kind k (Some other) = k == other

-- the prefix of a route-filter, its host bits masked off
abbrev pub filter_of_condition : Condition → Option PrefixParts
filter_of_condition (RouteFilter r) = Some r.prefix
filter_of_condition _ = None

abbrev pub filter_of : JunosForm → Option PrefixParts
filter_of (IsCondition c) = filter_of_condition c.condition
filter_of _ = None

-- two prefixes are one
abbrev pub same_prefix : PrefixParts → PrefixParts → Bool
same_prefix p q = (width p.address.family == width q.address.family) && (p.address.bits == q.address.bits) && (p.length == q.length)

-- the prefix is there, and it is this one
abbrev pub is_prefix : PrefixParts → Option PrefixParts → Bool
is_prefix p None = false
is_prefix p (Some q) = same_prefix p q

-- ---- what an action does

-- it changes the route
abbrev pub changes : Action → Bool
changes (GoesTo f) = false
changes _ = true

-- it puts numbers before the path
abbrev pub prepends : Action → Bool
prepends (Prepend ns) = true
prepends _ = false

-- it ends the run of the chain
abbrev pub is_end : Flow → Bool
is_end Accept = true
is_end Reject = true
is_end _ = false

abbrev pub ends : Action → Bool
ends (GoesTo f) = is_end f
ends _ = false

-- it goes on with the next policy
abbrev pub is_next_policy : Flow → Bool
is_next_policy NextPolicy = true
is_next_policy _ = false

abbrev pub leaves : Action → Bool
leaves (GoesTo f) = is_next_policy f
leaves _ = false

-- the form is an action that passes a test
abbrev pub acts : (Action → Bool) → JunosForm → Bool
acts test (IsAction a) = test a.action
acts test _ = false

-- the community that is set or added to those of the route
abbrev pub is_delete : CommunityVerb → Bool
is_delete Delete = true
is_delete _ = false

abbrev pub set_or_added : Action → Option (List ℕ)
set_or_added (ChangesCommunities a) = elim (is_delete a.verb) [ true ↦ None | false ↦ Some a.community ]
set_or_added _ = None

abbrev pub set_or_added_by : JunosForm → Option (List ℕ)
set_or_added_by (IsAction a) = set_or_added a.action
set_or_added_by _ = None

-- ---- the members of a community

-- the member stands for more than one community
abbrev pub is_wild : RectParts → Bool
is_wild r = not ((r.high_least == r.high_most) && (r.low_least == r.low_most))

-- the community of this name has a member that stands for more than one
abbrev pub is_not_plain : List ℕ → JunosForm → Bool
is_not_plain q (CommunityForm c) = bytes_eq q c.name && list_any is_wild c.members
is_not_plain q _ = false

-- ---- conditions and actions of a term

-- the form belongs to the term without a name
abbrev pub is_unnamed : JunosForm → Bool
is_unnamed (IsCondition c) = c.unnamed
is_unnamed (IsAction a) = a.unnamed
is_unnamed _ = false
