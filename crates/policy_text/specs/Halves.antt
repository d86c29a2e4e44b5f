-- The communities that two halves joined by a colon stand for, and those that have a word of their own.
use Rattle.std.specs.Prelude.{ℕ, List, [], ◌∷◌, Option, Some, codes, bytes_eq}
use Rattle.route_types.specs.Community.{RectParts}
use Rattle.route_types.specs.Words.{◌>>=◌, when, number_in, parts_at}
use Rattle.policy_text.specs.Names.{first_some}

-- the one community of these halves
abbrev pub one_community : ℕ → ℕ → RectParts
one_community high low = record { high_least = high; high_most = high; low_least = low; low_most = low }

-- the communities that have a word of their own (RFC 1997); the one of NO_EXPORT_SUBCONFED is another in each language
abbrev pub known_rects : List ℕ → List (List ℕ × RectParts)
known_rects within_confederation = (codes "no-export", one_community 65535 65281) ∷ (codes "no-advertise", one_community 65535 65282) ∷ (within_confederation, one_community 65535 65283) ∷ []

-- half of a community: one number, or `*` for all
abbrev pub number_or_all : List ℕ → Option (ℕ × ℕ)
number_or_all word = first_some (number_in 65535 word >>= λ n. Some (n, n)) (when (bytes_eq word (codes "*")) (0, 65535))

-- the rectangle of two halves
abbrev pub rect_of : ℕ × ℕ → ℕ × ℕ → RectParts
rect_of high low = record { high_least = high.0; high_most = high.1; low_least = low.0; low_most = low.1 }

-- two halves joined by `:`, each found by the function given
unfoldable pub halves_in : (List ℕ → Option (ℕ × ℕ)) → List ℕ → Option RectParts
halves_in half word = do
  halves ← parts_at 58 word
  high ← half halves.0
  low ← half halves.1
  Some (rect_of high low)
