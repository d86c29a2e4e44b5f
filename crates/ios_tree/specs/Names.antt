-- The names of lists, and the words that are no plain numbers, prefixes or addresses.
use Rattle.std.specs.Prelude.{ℕ, ◌-◌, ◌^◌, ◌==◌, ◌&&◌, nat_le, Bool, true, false, List, [], ◌∷◌, Option, Some, codes, bytes_eq, length}
use Rattle.std.specs.List.{list_all}
use Rattle.route_types.specs.Words.{◌>>=◌, when, is_digit, number_in, parts_at, community_in}
use Rattle.route_types.specs.Community.{RectParts}
use Rattle.route_types.specs.declared.community.Community.{Community}
use Rattle.route_types.specs.declared.route.Origin.{Origin}
use Rattle.route_types.specs.declared.route.Origin.TheVariants.{Igp, Incomplete}
use Rattle.policy_text.specs.CommonWords.{community_of_bits, known_communities}
use Rattle.policy_text.specs.Names.{is_name, first_some}
use Rattle.policy_text.specs.Phrases.{one_of}

-- digits without the zeros that stand before another digit
abbrev pub without_zeros : List ℕ → List ℕ
without_zeros [] = []
without_zeros (c ∷ []) = c ∷ []
without_zeros (c ∷ d ∷ cs) = elim (c == 48) [ true ↦ without_zeros (d ∷ cs) | false ↦ c ∷ d ∷ cs ]

-- the name that a word gives a list: a word of digits alone is read by its number
abbrev pub list_name : List ℕ → List ℕ
list_name word = elim (list_all is_digit word) [ true ↦ without_zeros word | false ↦ word ]

-- the list that a word names
unfoldable pub list_in : List ℕ → Option (List ℕ)
list_in word = when (is_name word) (list_name word)

-- the list that a number between these names, by its text
unfoldable pub numbered_list_in : ℕ → ℕ → List ℕ → Option (List ℕ)
numbered_list_in least most word = do
  n ← number_in most word
  when (nat_le least n) word

-- what an entry does
abbrev pub actions : List (List ℕ × Bool)
actions = (codes "permit", true) ∷ (codes "deny", false) ∷ []

-- `permit` or `deny`
unfoldable pub permit_in : List ℕ → Option Bool
permit_in word = one_of actions word

-- the origins of routes that can be set
abbrev pub origins : List (List ℕ × Origin)
origins = (codes "igp", Igp) ∷ (codes "incomplete", Incomplete) ∷ []

-- `igp` or `incomplete`
unfoldable pub origin_in : List ℕ → Option Origin
origin_in word = one_of origins word

-- the communities that have a word of their own
abbrev pub ios_communities : List (List ℕ × Community)
ios_communities = known_communities (codes "local-AS")

-- a community as one number, its 32 bits
abbrev pub whole_community : List ℕ → Option Community
whole_community word = do
  bits ← number_in (2 ^ 32 - 1) word
  Some (community_of_bits bits)

-- the community that a word spells: `a:b`, a word of its own, or one number
unfoldable pub community_word_in : List ℕ → Option Community
community_word_in word = first_some (community_in word) (first_some (one_of ios_communities word) (whole_community word))

-- the numbers that half of an expanded entry asks for: one, or all of them
abbrev pub half_in : List ℕ → Option (ℕ × ℕ)
half_in word = first_some (number_in 65535 word >>= λ n. Some (n, n)) (when (bytes_eq word (codes "[0-9]+")) (0, 65535))

-- the communities that an expanded entry asks for: `_`, two halves joined by `:`, `_`
unfoldable pub shape_in : List ℕ → Option RectParts
shape_in word = do
  front ← parts_at 95 word
  back ← parts_at 95 front.1
  halves ← parts_at 58 back.0
  high ← half_in halves.0
  low ← half_in halves.1
  when (length front.0 == 0 && length back.1 == 0) (record { high_least = high.0; high_most = high.1; low_least = low.0; low_most = low.1 })
