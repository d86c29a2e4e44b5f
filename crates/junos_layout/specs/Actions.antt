-- The actions of planned changes, in one order: local preference, MED, origin, next hop, prepends, communities.
use Rattle.std.specs.Prelude.{ℕ, ◌/◌, ◌%◌, ◌^◌, Bool, true, false, ◌&&◌, ◌==◌, List, [], ◌∷◌, ◌++◌, map, reverse, Option, Some, None}
use Rattle.std.specs.List.{list_any}
use Rattle.route_types.specs.Community.{RectParts}
use Rattle.route_types.specs.declared.community.CommChange.{CommChange}
use Rattle.route_types.specs.declared.community.Community.{Community}
use Rattle.junos_tree.specs.declared.item.Action.{Action}
use Rattle.junos_tree.specs.declared.item.Action.TheVariants.{Metric, LocalPreference, Origin, NextHop, Community as ChangeCommunities, Prepend}
use Rattle.junos_tree.specs.declared.item.CommunityVerb.{CommunityVerb}
use Rattle.junos_tree.specs.declared.item.CommunityVerb.TheVariants.{Set, Add, Delete}
use Rattle.junos_plans.specs.declared.changes.PlannedChanges.{PlannedChanges}
use Rattle.junos_layout.specs.Writing.{Writing}

-- the action of a value, if there is one
abbrev pub set_to : {A : Type 0} → (A → Action) → Option A → List Action
set_to make None = []
set_to make (Some x) = make x ∷ []

-- the numbers as they will stand before the path: the last one first
abbrev pub prepend_of : List ℕ → List Action
prepend_of [] = []
prepend_of (n ∷ ns) = Prepend (reverse (n ∷ ns)) ∷ []

-- every community
abbrev pub everything : RectParts
everything = record { high_least = 0; high_most = 65535; low_least = 0; low_most = 65535 }

abbrev pub is_all : RectParts → Bool
is_all r = (r.high_least == 0) && (r.high_most == 65535) && (r.low_least == 0) && (r.low_most == 65535)

-- the member that stands for this community alone
abbrev pub member_alone : Community → RectParts
member_alone c = record { high_least = c.0 / 2 ^ 16; high_most = c.0 / 2 ^ 16; low_least = c.0 % 2 ^ 16; low_most = c.0 % 2 ^ 16 }

-- what is done with these members, if there is any
abbrev pub done_with : Writing → CommunityVerb → List RectParts → List Action
done_with w verb [] = []
done_with w verb (r ∷ rs) = ChangeCommunities (record { verb = verb; community = w.community (r ∷ rs) }) ∷ []

-- the members of a removal and of an addition; a removal of everything replaces or, where nothing is added, deletes everything
abbrev pub replaced : Writing → List RectParts → List Action
replaced w [] = done_with w Delete (everything ∷ [])
replaced w (r ∷ rs) = done_with w Set (r ∷ rs)

abbrev pub change_actions : Writing → CommChange → List Action
change_actions w c = elim (list_any is_all c.removed) [
  | true ↦ replaced w (map member_alone c.added)
  | false ↦ done_with w Delete c.removed ++ done_with w Add (map member_alone c.added)
]

abbrev pub community_actions : Writing → Option CommChange → List Action
community_actions w None = []
community_actions w (Some c) = change_actions w c

-- the actions in their order
abbrev pub actions_of : Writing → PlannedChanges → List Action
actions_of w p =
    set_to LocalPreference p.local_preference
    ++ (set_to Metric p.med ++ (set_to Origin p.origin ++ (set_to NextHop p.next_hop ++ (prepend_of p.prepended ++ community_actions w p.communities))))
