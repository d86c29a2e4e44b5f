-- Which tests and changes a text of each language can say (Cisco IOS command reference, 'route-map'; Junos OS Routing
-- Policies User Guide, 'Routing Policy Match Conditions'; IOS XR Routing Configuration Guide, 'Routing Policy').
use Rattle.std.specs.Prelude.{ℕ, Bool, true, false, ◌&&◌, ◌||◌, ◌==◌, List}
use Rattle.std.specs.List.{list_all}
use Rattle.route_types.specs.Community.{RectParts}
use Rattle.route_types.specs.declared.route.Origin.{Origin}
use Rattle.route_types.specs.declared.route.Origin.TheVariants.{Igp, Egp, Incomplete}
use Rattle.route_types.specs.declared.route.NextHop.{NextHop}
use Rattle.route_types.specs.declared.route.NextHop.TheVariants.{At, Own}
use Rattle.route_types.specs.declared.change.Change.{Change}
use Rattle.route_types.specs.declared.change.Change.TheVariants.{NextHop as SetNextHop, Prepend, Origin as SetOrigin, LocalPreference as SetLocalPreference, Med, Weight, Communities}
use Rattle.prefix_sets.specs.declared.list.PrefixList.{PrefixList}
use Rattle.community_sets.specs.declared.list.CommTest.{CommTest}
use Rattle.community_sets.specs.declared.list.CommTest.TheVariants.{AllOf, Exactly}
use Rattle.community_sets.specs.declared.list.CommList.{CommList}
use Rattle.core_nodes.specs.declared.atom.Atom.{Atom}
use Rattle.core_nodes.specs.declared.atom.Atom.TheVariants.{Prefix, NextHop as TestNextHop, Path, Community, MedOneOf, MedAtLeast, MedAtMost, LocalPreference, Origin as TestOrigin, NoCommunity}
use Rattle.policy_core.specs.Ranges.{address_in_range, list_in_range}

-- ---- communities

-- a half is one number, or all numbers
abbrev pub is_plain_half : ℕ → ℕ → Bool
is_plain_half least most = least == most || (least == 0 && most == 65535)

-- both halves of a rectangle are plain
abbrev pub is_plain : RectParts → Bool
is_plain r = is_plain_half r.high_least r.high_most && is_plain_half r.low_least r.low_most

-- the entry asks for some communities, whatever the others are
abbrev pub is_all_of : CommTest → Bool
is_all_of (AllOf rects) = true
is_all_of (Exactly set) = false

-- the same, with plain halves
abbrev pub is_plain_all_of : CommTest → Bool
is_plain_all_of (AllOf rects) = list_all is_plain rects
is_plain_all_of (Exactly set) = false

-- the entry asks for the whole set of communities
abbrev pub is_exactly : CommTest → Bool
is_exactly (AllOf rects) = false
is_exactly (Exactly set) = true

-- each entry of each list is of a sort
abbrev pub lists_are : (CommTest → Bool) → List CommList → Bool
lists_are sort lists = list_all (λ l. list_all (λ e. sort e.test) l.entries) lists

-- ---- next hops

-- each entry of the list holds one address
abbrev pub is_full_length : PrefixList → Bool
is_full_length list = list_all (λ e. e.range.prefix.length == 32) list.entries

-- the address of a next hop is in range
abbrev pub hop_in_range : NextHop → Bool
hop_in_range (At a) = address_in_range a
hop_in_range Own = true

-- ---- IOS

abbrev pub ios_atom : Atom → Bool
ios_atom (Prefix lists) = list_all list_in_range lists
ios_atom (TestNextHop lists) = list_all list_in_range lists
ios_atom (Path lists) = true
ios_atom (Community lists) = lists_are is_plain_all_of lists || lists_are is_exactly lists
ios_atom (MedOneOf numbers) = true
ios_atom (MedAtLeast n) = false
ios_atom (MedAtMost n) = false
ios_atom (LocalPreference n) = false
ios_atom (TestOrigin o) = false
ios_atom NoCommunity = false

-- `set origin egp` takes an AS number, so it isn't said
abbrev pub ios_origin : Origin → Bool
ios_origin Igp = true
ios_origin Egp = false
ios_origin Incomplete = true

-- the next hop is an address, in range
abbrev pub ios_hop : NextHop → Bool
ios_hop (At a) = address_in_range a
ios_hop Own = false

abbrev pub ios_change : Change → Bool
ios_change (SetNextHop h) = ios_hop h
ios_change (Prepend n) = true
ios_change (SetOrigin o) = ios_origin o
ios_change (SetLocalPreference n) = true
ios_change (Med n) = true
ios_change (Weight n) = true
ios_change (Communities c) = list_all is_plain c.removed

-- ---- Junos

abbrev pub junos_atom : Atom → Bool
junos_atom (Prefix lists) = list_all list_in_range lists
junos_atom (TestNextHop lists) = list_all (λ l. list_in_range l && is_full_length l) lists
junos_atom (Path lists) = true
junos_atom (Community lists) = lists_are is_plain_all_of lists
junos_atom (MedOneOf numbers) = true
junos_atom (MedAtLeast n) = false
junos_atom (MedAtMost n) = false
junos_atom (LocalPreference n) = true
junos_atom (TestOrigin o) = true
junos_atom NoCommunity = false

abbrev pub junos_change : Change → Bool
junos_change (SetNextHop h) = hop_in_range h
junos_change (Prepend n) = true
junos_change (SetOrigin o) = true
junos_change (SetLocalPreference n) = true
junos_change (Med n) = true
junos_change (Weight n) = false
junos_change (Communities c) = list_all is_plain c.removed

-- ---- IOS XR

abbrev pub rpl_atom : Atom → Bool
rpl_atom (Prefix lists) = list_all list_in_range lists
rpl_atom (TestNextHop lists) = list_all list_in_range lists
rpl_atom (Path lists) = true
rpl_atom (Community lists) = lists_are is_all_of lists
rpl_atom (MedOneOf numbers) = true
rpl_atom (MedAtLeast n) = true
rpl_atom (MedAtMost n) = true
rpl_atom (LocalPreference n) = false
rpl_atom (TestOrigin o) = true
rpl_atom NoCommunity = true

abbrev pub rpl_change : Change → Bool
rpl_change (SetNextHop h) = hop_in_range h
rpl_change (Prepend n) = true
rpl_change (SetOrigin o) = true
rpl_change (SetLocalPreference n) = true
rpl_change (Med n) = true
rpl_change (Weight n) = true
rpl_change (Communities c) = true
