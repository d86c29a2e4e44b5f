-- Worked examples that the checker computes.
use Rattle.std.proofs.Common.{◌≡◌, refl, List, [], ◌∷◌, ℕ, Bool, true, false}
use Rattle.route_types.specs.Address.{PrefixParts}
use Rattle.route_types.specs.declared.address.Family.TheVariants.{V4, V6}
use Rattle.prefix_sets.specs.Range.{RangeParts, in_range}
use Rattle.prefix_sets.specs.FirstMatch.{first_match}
use Rattle.prefix_sets.specs.LongestMatch.{longest_match}
use Rattle.prefix_sets.specs.declared.list.PrefixEntry.{PrefixEntry}

abbrev v4 : ℕ → ℕ → PrefixParts
v4 bits length = record { address = record { family = V4; bits = bits }; length = length }

abbrev entry : Bool → PrefixParts → ℕ → ℕ → PrefixEntry
entry permit prefix least most = record { permit = permit; range = record { prefix = prefix; least = least; most = most } }

-- 10.1.0.0/16 is denied before 10.0.0.0/8 le 24 permits
denied_first : first_match (entry false (v4 167837696 16) 16 16 ∷ entry true (v4 167772160 8) 8 24 ∷ []) (v4 167837696 16) ≡ false
unfolding first_match
denied_first = refl

-- 10.2.0.0/16 passes the deny and is permitted
permitted_behind : first_match (entry false (v4 167837696 16) 16 16 ∷ entry true (v4 167772160 8) 8 24 ∷ []) (v4 167903232 16) ≡ true
unfolding first_match
permitted_behind = refl

-- no entry holds 11.0.0.0/8
none_holds : first_match (entry true (v4 167772160 8) 8 24 ∷ []) (v4 184549376 8) ≡ false
unfolding first_match
none_holds = refl

-- 255.255.255.255/32 is in 0.0.0.0/0 ge 32, and 0.0.0.0/0 is not
last_address : in_range (record { prefix = v4 0 0; least = 32; most = 32 }) (v4 4294967295 32) ≡ true
last_address = refl

whole_is_shorter : in_range (record { prefix = v4 0 0; least = 32; most = 32 }) (v4 0 0) ≡ false
whole_is_shorter = refl

-- a range of IPv6 holds no prefix of IPv4
other_family : in_range (record { prefix = record { address = record { family = V6; bits = 0 }; length = 0 }; least = 0; most = 128 }) (v4 167772160 8) ≡ false
other_family = refl

-- of 10.0.0.0/8 orlonger and 10.1.0.0/16 exact the second alone decides on what it contains
abbrev filters : List RangeParts
filters = record { prefix = v4 167772160 8; least = 8; most = 32 } ∷ record { prefix = v4 167837696 16; least = 16; most = 16 } ∷ []

longest_decides : longest_match filters (v4 167837696 24) ≡ false
longest_decides = refl

longest_holds : longest_match filters (v4 167837696 16) ≡ true
longest_holds = refl

shorter_decides : longest_match filters (v4 167903232 24) ≡ true
shorter_decides = refl

none_contains : longest_match filters (v4 184549376 8) ≡ false
none_contains = refl
