-- What each line of a route's text says, as functions that find it in the line's words.
use Rattle.std.specs.Prelude.{ℕ, true, false, List, [], ◌∷◌, Option, Some, None, bytes_eq, codes}
use Rattle.route_types.specs.Address.{PrefixParts}
use Rattle.route_types.specs.Words.{when, number_in, address_in, prefix_in, community_in, ◌>>=◌}
use Rattle.route_types.specs.Community.{set_of}
use Rattle.route_types.specs.declared.community.Community.{Community}
use Rattle.route_types.specs.declared.route.NextHop.{NextHop}
use Rattle.route_types.specs.declared.route.NextHop.TheVariants.{At, Own}
use Rattle.route_types.specs.declared.route.Origin.{Origin}
use Rattle.route_types.specs.declared.route.Origin.TheVariants.{Igp, Egp, Incomplete}

-- the words behind the name
abbrev pub words_behind : List ℕ → List (List ℕ) → Option (List (List ℕ))
words_behind name [] = None
words_behind name (w ∷ ws) = when (bytes_eq w name) ws

-- the one word, where there is no other
abbrev pub only_word : List (List ℕ) → Option (List ℕ)
only_word [] = None
only_word (w ∷ []) = Some w
only_word (w ∷ x ∷ ws) = None

-- the values of all the words, where each has one
unfoldable pub each_in : {A : Type 0} → (List ℕ → Option A) → List (List ℕ) → Option (List A)
each_in find [] = Some []
each_in find (w ∷ ws) = do
  x ← find w
  xs ← each_in find ws
  Some (x ∷ xs)

-- the one word behind the name
unfoldable pub word_in : List ℕ → List (List ℕ) → Option (List ℕ)
word_in name words = do
  behind ← words_behind name words
  only_word behind

-- the next hop that a word spells
unfoldable pub next_hop_in : List ℕ → Option NextHop
next_hop_in word = elim (bytes_eq word (codes "self")) [
  | true ↦ Some Own
  | false ↦ address_in word >>= λ a. Some (At a)
]

-- the origin that a word spells
unfoldable pub origin_in : List ℕ → Option Origin
origin_in word = elim (bytes_eq word (codes "igp")) [
  | true ↦ Some Igp
  | false ↦ elim (bytes_eq word (codes "egp")) [ true ↦ Some Egp | false ↦ when (bytes_eq word (codes "incomplete")) Incomplete ]
]

-- the prefix of a line `route`
abbrev pub prefix_of_line : List (List ℕ) → Option PrefixParts
prefix_of_line words = word_in (codes "route") words >>= prefix_in

-- the next hop of a line `next-hop`
abbrev pub next_hop_of_line : List (List ℕ) → Option NextHop
next_hop_of_line words = word_in (codes "next-hop") words >>= next_hop_in

-- the AS numbers of a line `as-path`
abbrev pub path_of_line : List (List ℕ) → Option (List ℕ)
path_of_line words = words_behind (codes "as-path") words >>= each_in (number_in 4294967295)

-- the origin of a line `origin`
abbrev pub origin_of_line : List (List ℕ) → Option Origin
origin_of_line words = word_in (codes "origin") words >>= origin_in

-- the number of a line of this name
abbrev pub number_of_line : List ℕ → ℕ → List (List ℕ) → Option ℕ
number_of_line name most words = word_in name words >>= number_in most

-- the set of the communities of a line `communities`
abbrev pub communities_of_line : List (List ℕ) → Option (List Community)
communities_of_line words = do
  behind ← words_behind (codes "communities") words
  listed ← each_in community_in behind
  Some (set_of listed)
