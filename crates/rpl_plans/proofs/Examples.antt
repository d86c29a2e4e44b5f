-- Worked examples of the terms of lists.
use Rattle.std.proofs.Common.{◌≡◌, refl, ℕ, Bool, true, false, [], ◌∷◌}
use Rattle.prefix_sets.specs.Range.{RangeParts}
use Rattle.prefix_sets.specs.declared.list.PrefixEntry.{PrefixEntry}
use Rattle.route_types.specs.Community.{RectParts}
use Rattle.route_types.specs.declared.address.Family.TheVariants.{V4}
use Rattle.community_sets.specs.declared.list.CommTest.TheVariants.{AllOf}
use Rattle.rpl_plans.specs.Actions.{prepended}
use Rattle.rpl_plans.specs.Choices.{grouped_from, terms_from, terms_of_list, or_never, alone}
use Rattle.rpl_plans.specs.Entries.{prefix_choices, comm_choices}
use Rattle.rpl_plans.specs.declared.test.PlannedTest.TheVariants.{Destination, MatchesAny, MatchesEvery}
use Rattle.rpl_plans.specs.declared.test.RouteAddress.TheVariants.{Destination as OfDestination}

-- 10.0.0.0/8 and 10.1.0.0/16 with lengths
ten : ℕ → ℕ → RangeParts
ten least most = record { prefix = record { address = record { family = V4; bits = 167772160 }; length = 8 }; least = least; most = most }

within_ten : ℕ → ℕ → RangeParts
within_ten least most = record { prefix = record { address = record { family = V4; bits = 167837696 }; length = 16 }; least = least; most = most }

entry : Bool → RangeParts → PrefixEntry
entry permit range = record { permit = permit; range = range }

-- `deny 10.1.0.0/16`, `permit 10.0.0.0/8 le 24`: not in the one set, and in the other
deny_first : terms_of_list (prefix_choices OfDestination (entry false (within_ten 16 16) ∷ entry true (ten 8 24) ∷ []))
    ≡ (record { denied = Destination (within_ten 16 16 ∷ []) ∷ []; permitted = Destination (ten 8 24 ∷ []) } ∷ [])
unfolding prefix_choices grouped_from terms_from ten within_ten entry
deny_first = refl

-- neighbours of one action are one set, and a deny entry behind all permit entries gives nothing
neighbours : terms_of_list (prefix_choices OfDestination (entry true (within_ten 16 16) ∷ entry true (ten 8 24) ∷ entry false (ten 8 32) ∷ []))
    ≡ (record { denied = []; permitted = Destination (within_ten 16 16 ∷ ten 8 24 ∷ []) } ∷ [])
unfolding prefix_choices grouped_from terms_from ten within_ten entry
neighbours = refl

-- `deny 10.0.0.0/8` alone: the test of an empty set
only_deny : or_never (Destination []) (terms_of_list (prefix_choices OfDestination (entry false (ten 8 8) ∷ []))) ≡ alone (Destination [])
unfolding prefix_choices grouped_from terms_from ten entry
only_deny = refl

-- lengths end at 32, and a range without any is left out
lengths : prefix_choices OfDestination (entry true (ten 8 128) ∷ entry false (ten 33 128) ∷ []) ≡ (record { permit = true; test = Destination (ten 8 32 ∷ []) } ∷ [])
unfolding prefix_choices ten entry
lengths = refl

rect : ℕ → RectParts
rect low = record { high_least = 65000; high_most = 65000; low_least = low; low_most = low }

-- one community is a set that is matched by any, several are one that is matched by every
communities : terms_of_list (comm_choices (record { permit = true; test = AllOf (rect 1 ∷ []) } ∷ record { permit = true; test = AllOf (rect 2 ∷ rect 3 ∷ []) } ∷ record { permit = true; test = AllOf (rect 4 ∷ []) } ∷ record { permit = true; test = AllOf (rect 5 ∷ []) } ∷ []))
    ≡ (record { denied = []; permitted = MatchesAny (rect 1 ∷ []) } ∷ record { denied = []; permitted = MatchesEvery (rect 2 ∷ rect 3 ∷ []) } ∷ record { denied = []; permitted = MatchesAny (rect 4 ∷ rect 5 ∷ []) } ∷ [])
unfolding comm_choices grouped_from terms_from rect
communities = refl

-- the last number put before a path stands first
in_front : prepended (1 ∷ 2 ∷ []) (3 ∷ []) ≡ (2 ∷ 1 ∷ 3 ∷ [])
unfolding prepended
in_front = refl
