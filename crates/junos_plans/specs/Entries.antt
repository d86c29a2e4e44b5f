-- The entries of lists as terms of subroutines, one each: a range without lengths that no prefix of IPv4 has, and no term for
-- an entry whose range is empty; one condition for all communities that an entry asks for.
use Rattle.std.specs.Prelude.{◌≡◌, ℕ, Bool, true, false, nat_le, min, max, List, [], ◌∷◌, map, Option, Some, None}
use Rattle.route_types.specs.Community.{RectParts}
use Rattle.route_types.specs.Route.{RouteParts}
use Rattle.prefix_sets.specs.Range.{RangeParts}
use Rattle.prefix_sets.specs.declared.list.PrefixEntry.{PrefixEntry}
use Rattle.prefix_sets.specs.declared.list.PrefixList.{PrefixList}
use Rattle.community_sets.specs.declared.list.CommList.{CommList}
use Rattle.community_sets.specs.declared.list.CommEntry.{CommEntry}
use Rattle.community_sets.specs.declared.list.CommTest.{CommTest}
use Rattle.community_sets.specs.declared.list.CommTest.TheVariants.{AllOf, Exactly}
use Rattle.path_patterns.specs.Items.{IsPath}
use Rattle.path_patterns.specs.PathMatches.{path_matches, whole_path}
use Rattle.path_patterns.specs.Items.{takes_of}
use Rattle.path_patterns.specs.declared.items.TokenBranch.{TokenBranch}
use Rattle.path_patterns.specs.declared.items.TokenPattern.{TokenPattern}
use Rattle.junos_plans.specs.Conditions.{condition_holds}
use Rattle.junos_plans.specs.declared.condition.PlannedCondition.{PlannedCondition}
use Rattle.junos_plans.specs.declared.condition.PlannedCondition.TheVariants.{Anything, Destination, NextHop, Communities, Med}
use Rattle.junos_plans.specs.declared.condition.PlannedEntry.{PlannedEntry}
use Rattle.junos_plans.specs.declared.condition.PlannedList.{PlannedList}
use Rattle.junos_plans.specs.declared.condition.RouteAddress.{RouteAddress}
use Rattle.junos_plans.specs.declared.condition.RouteAddress.TheVariants.{Destination as OfDestination, NextHop as OfNextHop}

-- ---- prefix lists

-- a prefix of IPv4 can have a length of the range
abbrev pub has_length : RangeParts → Bool
has_length x = nat_le (max x.least x.prefix.length) (min x.most 32)

-- the range from the length of its prefix on, without the lengths that no prefix of IPv4 has
abbrev pub cut_range : RangeParts → RangeParts
cut_range x = record { prefix = x.prefix; least = max x.least x.prefix.length; most = min x.most 32 }

-- what a range asks: of a next hop it is one address
abbrev pub range_condition : RouteAddress → RangeParts → PlannedCondition
range_condition OfDestination x = Destination (cut_range x ∷ [])
range_condition OfNextHop x = NextHop (x.prefix.address ∷ [])

-- the terms of a prefix list
unfoldable pub prefix_entries : RouteAddress → List PrefixEntry → List PlannedEntry
prefix_entries asked [] = []
prefix_entries asked (e ∷ es) = elim (has_length e.range) [
  | true ↦ record { permit = e.permit; condition = range_condition asked e.range } ∷ prefix_entries asked es
  | false ↦ prefix_entries asked es
]

-- ---- community lists

-- an entry that asks for no community holds for every route
abbrev pub set_condition : List RectParts → PlannedCondition
set_condition [] = Anything
set_condition (r ∷ rs) = Communities ((r ∷ rs) ∷ [])

-- no condition asks for a whole set
abbrev pub comm_condition : CommTest → PlannedCondition
comm_condition (AllOf rects) = set_condition rects
comm_condition (Exactly set) = Anything

-- the terms of a community list
unfoldable pub comm_entries : List CommEntry → List PlannedEntry
comm_entries [] = []
comm_entries (e ∷ es) = record { permit = e.permit; condition = comm_condition e.test } ∷ comm_entries es

-- ---- numbers

-- the MED is one of the numbers
unfoldable pub med_entries : List ℕ → List PlannedEntry
med_entries [] = []
med_entries (n ∷ ns) = record { permit = true; condition = Med n } ∷ med_entries ns

-- ---- lists

unfoldable pub prefix_lists : RouteAddress → List PrefixList → List PlannedList
prefix_lists asked [] = []
prefix_lists asked (l ∷ ls) = record { entries = prefix_entries asked l.entries } ∷ prefix_lists asked ls

unfoldable pub comm_lists : List CommList → List PlannedList
comm_lists [] = []
comm_lists (l ∷ ls) = record { entries = comm_entries l.entries } ∷ comm_lists ls

-- the lists; where there is none, one without terms
abbrev pub or_never : List PlannedList → List PlannedList
or_never [] = record { entries = [] } ∷ []
or_never (l ∷ ls) = l ∷ ls

-- ---- path lists

-- the items of a branch take the whole path
abbrev pub branch_matches : TokenBranch → List ℕ → Bool
branch_matches b path = whole_path (map takes_of b.items) path

-- a condition that holds for the routes whose path the pattern matches; none where it matches no path
abbrev pub SaysPath : TokenPattern → Option PlannedCondition → Type 0
SaysPath p None = (path : List ℕ) → IsPath path → path_matches p path ≡ false
SaysPath p (Some c) = (r : RouteParts) → IsPath r.path → condition_holds r c ≡ path_matches p r.path
