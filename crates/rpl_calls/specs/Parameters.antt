-- Parameters of policies, and where each stands in a list of parameters.
use Rattle.std.specs.Prelude.{ℕ, zero, suc, Bool, true, false, ◌&&◌, ◌==◌, List, [], ◌∷◌, bytes_eq, Option, Some, None, slice_get, length}

-- a parameter of the policies of a name, by its place, from 0
pub record ParameterParts : Type 0 where
  pub policy : List ℕ
  pub place : ℕ

-- it is this one
abbrev pub is_parameter : ParameterParts → Option ParameterParts → Bool
is_parameter p None = false
is_parameter p (Some q) = bytes_eq p.policy q.policy && (p.place == q.place)

-- at a place of a list stands this parameter
abbrev pub is_at : ParameterParts → List (Option ParameterParts) → ℕ → Bool
is_at p ps n = elim (slice_get ps n) [ None ↦ false | Some o ↦ is_parameter p o ]

-- the places below n at which it stands, the last one first
unfoldable pub places_below : ParameterParts → List (Option ParameterParts) → ℕ → List ℕ
places_below p ps zero = []
places_below p ps (suc n) = elim (is_at p ps n) [ true ↦ n ∷ places_below p ps n | false ↦ places_below p ps n ]

-- all places at which it stands
abbrev pub places_in : List (Option ParameterParts) → ParameterParts → List ℕ
places_in ps p = places_below p ps (length ps)

-- ---- the same, one place after the other

-- the last place below n at which it stands
unfoldable pub last_below : ParameterParts → List (Option ParameterParts) → ℕ → Option ℕ
last_below p ps zero = None
last_below p ps (suc n) = elim (is_at p ps n) [ true ↦ Some n | false ↦ last_below p ps n ]

abbrev pub last_in : List (Option ParameterParts) → ParameterParts → Option ℕ
last_in ps p = last_below p ps (length ps)

-- the last place before this one at which the same parameter stands
abbrev pub last_of : Option ParameterParts → List (Option ParameterParts) → ℕ → Option ℕ
last_of None ps n = None
last_of (Some p) ps n = last_below p ps n

abbrev pub earlier_of : List (Option ParameterParts) → ℕ → Option ℕ
earlier_of ps n = elim (slice_get ps n) [ None ↦ None | Some o ↦ last_of o ps n ]
