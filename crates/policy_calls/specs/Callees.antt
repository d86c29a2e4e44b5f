-- What the code keeps of calls: the called policies under the names of their callers, and sets of names and of pairs.
use Rattle.std.specs.Prelude.{ℕ, Bool, true, false, List, [], ◌∷◌, map, bytes_eq, Vec}
use Rattle.std.specs.List.{list_any}
use Rattle.std.specs.Option.{option_map_or}
use Rattle.std.specs.declared.alloc.Global.{Global}
use Rattle.std.specs.Ordering.{is_eq, nat_cmp, ordering_then}
use Rattle.std.specs.Cmp.Lexicographic.{slice_cmp}
use Rattle.std.specs.BTreeMap.{BTreeMap, get_by}
use Rattle.std.specs.BTreeSet.{BTreeSet}
use denote.Ref.{Bor}
use Rattle.policy_calls.specs.Calls.{Link}
use Rattle.policy_calls.specs.declared.call.Call.{Call}

-- what references point to
abbrev pub nows : List (Bor (List ℕ)) → List (List ℕ)
nows names = map (λ n. n.now) names

-- the call as clauses see it
abbrev pub link_of : Call → Link
link_of c = record { caller = c.caller.now; callee = c.callee.now }

abbrev pub links_of : List Call → List Link
links_of calls = map link_of calls

-- the policies that this one calls
unfoldable pub callees_of : List ℕ → List Call → List (List ℕ)
callees_of p [] = []
callees_of p (c ∷ cs) = elim (bytes_eq p c.caller.now) [ true ↦ c.callee.now ∷ callees_of p cs | false ↦ callees_of p cs ]

-- called policies under the names of their callers
abbrev pub Callees : Type 0
Callees = BTreeMap (Bor (List ℕ)) (Vec (Bor (List ℕ)) Global)

-- those that stand under a name
abbrev pub callees_at : Callees → List ℕ → List (List ℕ)
callees_at m p = option_map_or (λ v. nows v.items) (get_by (λ k. slice_cmp nat_cmp p k.now) m) []

-- the set has this pair
abbrev pub has_pair : BTreeSet (Bor (List ℕ) × Bor (List ℕ)) → List ℕ → List ℕ → Bool
has_pair s p q = list_any (λ k. is_eq (ordering_then (slice_cmp nat_cmp p k.0.now) (slice_cmp nat_cmp q k.1.now))) s.keys

-- the calls, each the other way round
unfoldable pub swapped : List Call → List Call
swapped [] = []
swapped (c ∷ cs) = record { caller = c.callee; callee = c.caller } ∷ swapped cs
