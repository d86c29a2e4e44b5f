-- How many calls deep a policy is run.
use Rattle.std.specs.Prelude.{ℕ, suc, zero, Bool, ◌&&◌, not, List, bytes_eq}
use Rattle.std.specs.List.{list_any}
use Rattle.policy_calls.specs.Calls.{Link, has_cycle}

-- the policy stands at the end of this many calls from one of these names
unfoldable pub is_at : List Link → List (List ℕ) → ℕ → List ℕ → Bool
is_at links names zero q = list_any (bytes_eq q) names
is_at links names (suc n) q = list_any (λ l. bytes_eq q l.callee && is_at links names n l.caller) links

-- how many calls may stand one in the other
abbrev pub most_calls : ℕ
most_calls = 128

-- a call in the policy stands too deep: it would be the first beyond the most, and no policy leads back to itself
unfoldable pub is_too_deep : List Link → List (List ℕ) → List ℕ → Bool
is_too_deep links names p = not (has_cycle links names) && is_at links names most_calls p
