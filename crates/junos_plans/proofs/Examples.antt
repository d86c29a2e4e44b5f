-- Worked examples of the conditions of lists.
use Rattle.std.proofs.Common.{◌≡◌, refl, ℕ, Bool, true, false, [], ◌∷◌}
use Rattle.route_types.specs.Community.{RectParts}
use Rattle.route_types.specs.declared.address.Family.TheVariants.{V4}
use Rattle.prefix_sets.specs.Range.{RangeParts}
use Rattle.prefix_sets.specs.declared.list.PrefixEntry.{PrefixEntry}
use Rattle.community_sets.specs.declared.list.CommTest.TheVariants.{AllOf}
use Rattle.junos_plans.specs.Apart.{meets, rise_from}
use Rattle.junos_plans.specs.Changes.{prepended}
use Rattle.junos_plans.specs.Entries.{prefix_entries, comm_entries, or_never}
use Rattle.junos_plans.specs.declared.condition.PlannedCondition.TheVariants.{Anything, Destination, NextHop, Communities}
use Rattle.junos_plans.specs.declared.condition.RouteAddress.TheVariants.{Destination as OfDestination, NextHop as OfNextHop}

-- 10.0.0.0/8 and 10.1.0.0/16 with lengths, and 10.1.2.3/32
ten : ℕ → ℕ → RangeParts
ten least most = record { prefix = record { address = record { family = V4; bits = 167772160 }; length = 8 }; least = least; most = most }

within_ten : ℕ → ℕ → RangeParts
within_ten least most = record { prefix = record { address = record { family = V4; bits = 167837696 }; length = 16 }; least = least; most = most }

host : RangeParts
host = record { prefix = record { address = record { family = V4; bits = 167838211 }; length = 32 }; least = 32; most = 32 }

entry : Bool → RangeParts → PrefixEntry
entry permit range = record { permit = permit; range = range }

-- `deny 10.1.0.0/16`, `permit 10.0.0.0/8 le 24`: a term that rejects, and one that accepts
deny_first : prefix_entries OfDestination (entry false (within_ten 16 16) ∷ entry true (ten 8 24) ∷ [])
    ≡ (record { permit = false; condition = Destination (within_ten 16 16 ∷ []) } ∷ record { permit = true; condition = Destination (ten 8 24 ∷ []) } ∷ [])
unfolding prefix_entries ten within_ten entry
deny_first = refl

-- lengths end at 32, and an entry without any has no term
lengths : prefix_entries OfDestination (entry true (ten 8 128) ∷ entry false (ten 33 128) ∷ []) ≡ (record { permit = true; condition = Destination (ten 8 32 ∷ []) } ∷ [])
unfolding prefix_entries ten entry
lengths = refl

-- a next hop is asked for by its address
one_hop : prefix_entries OfNextHop (entry true host ∷ []) ≡ (record { permit = true; condition = NextHop (record { family = V4; bits = 167838211 } ∷ []) } ∷ [])
unfolding prefix_entries host entry
one_hop = refl

-- 10.0.0.0/8 contains 10.1.0.0/16, whatever the lengths are
nested : meets (ten 8 24) (within_ten 16 16) ≡ true
unfolding ten within_ten
nested = refl

-- a block that starts where the one before it ends, and one that starts before that
side_by_side : rise_from 0 (record { first = 0; past = 16; range = ten 8 8 } ∷ record { first = 16; past = 32; range = ten 8 8 } ∷ []) ≡ true
unfolding rise_from
side_by_side = refl

overlapping : rise_from 0 (record { first = 0; past = 16; range = ten 8 8 } ∷ record { first = 15; past = 31; range = ten 8 8 } ∷ []) ≡ false
unfolding rise_from
overlapping = refl

rect : ℕ → RectParts
rect low = record { high_least = 65000; high_most = 65000; low_least = low; low_most = low }

-- two communities of one entry are the members of one community of Junos; an entry that asks for none holds for every route
communities : comm_entries (record { permit = true; test = AllOf (rect 1 ∷ rect 2 ∷ []) } ∷ record { permit = false; test = AllOf [] } ∷ [])
    ≡ (record { permit = true; condition = Communities ((rect 1 ∷ rect 2 ∷ []) ∷ []) } ∷ record { permit = false; condition = Anything } ∷ [])
unfolding comm_entries rect
communities = refl

-- where there is no list, one that rejects every route
no_list : or_never [] ≡ (record { entries = [] } ∷ [])
no_list = refl

-- the last number put before a path stands first
in_front : prepended (1 ∷ 2 ∷ []) (3 ∷ []) ≡ (2 ∷ 1 ∷ 3 ∷ [])
unfolding prepended
in_front = refl
