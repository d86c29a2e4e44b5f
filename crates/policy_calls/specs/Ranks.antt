-- Ranks of policies that show which calls lead back.
use Rattle.std.specs.Prelude.{ℕ, Bool, true, false, ◌&&◌, ◌==◌, nat_le, nat_lt, List, [], ◌∷◌}
use Rattle.std.specs.Option.{option_map_or}
use Rattle.std.specs.Ordering.{nat_cmp}
use Rattle.std.specs.Cmp.Lexicographic.{slice_cmp}
use Rattle.std.specs.BTreeMap.{BTreeMap, get_by}
use denote.Ref.{Bor}
use Rattle.policy_text.specs.NameSets.{has_name}
use Rattle.policy_calls.specs.Calls.{Link}
use Rattle.policy_calls.specs.Search.{Names}
use Rattle.policy_calls.specs.declared.call.Call.{Call}

-- the rank that a map holds under a name, else 0
abbrev pub rank_at : BTreeMap (Bor (List ℕ)) ℕ → List ℕ → ℕ
rank_at m p = option_map_or (λ r. r) (get_by (λ k. slice_cmp nat_cmp p k.now) m) 0

-- the call goes to no higher rank
abbrev pub falls : (List ℕ → ℕ) → Link → Bool
falls rank l = nat_le (rank l.callee) (rank l.caller)

-- the calls that stay in their rank
unfoldable pub level : (List ℕ → ℕ) → List Call → List Call
level rank [] = []
level rank (c ∷ cs) = elim (rank c.callee.now == rank c.caller.now) [ true ↦ c ∷ level rank cs | false ↦ level rank cs ]

-- the caller is in the one set, and the callee in the other
abbrev pub are_between : Names → Names → Link → Bool
are_between callers callees l = has_name callers l.caller 0 0 && has_name callees l.callee 0 0

-- the ranks of these rise, and are above this one
unfoldable pub rise_above : (List ℕ → ℕ) → ℕ → List (List ℕ) → Bool
rise_above rank least [] = true
rise_above rank least (n ∷ ns) = nat_lt least (rank n) && rise_above rank (rank n) ns

-- the ranks of these rise
abbrev pub are_apart : (List ℕ → ℕ) → List (List ℕ) → Bool
are_apart rank [] = true
are_apart rank (n ∷ ns) = rise_above rank (rank n) ns
