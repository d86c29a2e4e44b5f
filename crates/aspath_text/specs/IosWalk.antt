-- Where the walks over the text of an IOS pattern cut it: by lengths.
use Rattle.std.specs.Prelude.{◌≡◌, ℕ, zero, suc, ◌+◌, ◌<◌, length, true, false, ◌&&◌, ◌==◌, List, [], ◌∷◌, ◌++◌, Option, Some, None}
use Rattle.route_types.specs.Words.{◌>>=◌}
use Rattle.aspath_text.specs.IosRead.{depth_behind, parts_by, set_at}
use Rattle.path_patterns.specs.declared.pattern.DigitSet.{DigitSet}

-- the length of what stands before the first such byte outside parentheses; else of all
unfoldable pub part_length : ℕ → ℕ → List ℕ → ℕ
part_length b d [] = 0
part_length b d (c ∷ cs) = elim (c == b && d == 0) [
  | true ↦ 0
  | false ↦ 1 + part_length b (depth_behind d c) cs
]

-- the parts behind such a byte, where it stands first in the text
abbrev pub parts_behind : ℕ → List ℕ → List (List ℕ)
parts_behind b [] = []
parts_behind b (c ∷ cs) = parts_by b (depth_behind 0 b) cs

-- the length of a set in front of its tails
abbrev pub set_length : List ℕ → ℕ
set_length [] = 0
set_length (c ∷ cs) = 1 + part_length 40 (depth_behind 0 c) cs

-- the walk over digits and classes: those found so far, and behind them at most so many of the text
unfoldable pub sets_onto : ℕ → List DigitSet → List ℕ → Option (List DigitSet)
sets_onto n found [] = Some found
sets_onto zero found (c ∷ cs) = None
sets_onto (suc n) found (c ∷ cs) = set_at (c ∷ cs) >>= λ r. sets_onto n (found ++ r.0 ∷ []) r.1

-- the first part behind such a byte, and what stands behind that part
abbrev pub NextPart : ℕ → List ℕ → Option (List ℕ × List ℕ) → Type 0
NextPart b text None = parts_behind b text ≡ []
NextPart b text (Some p) = (parts_behind b text ≡ p.0 ∷ parts_behind b p.1) × (length p.1 < length text)
