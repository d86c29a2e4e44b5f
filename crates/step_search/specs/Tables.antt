-- The places at which a name stands in a list of names, from 0, and what a table of them says.
use Rattle.std.specs.Prelude.{◌≡◌, ℕ, zero, suc, ◌<◌, Bool, List, [], ◌∷◌, bytes_eq, nat_lt, Option, Some, None, true, false, slice_get, length}
use Rattle.name_maps.specs.Under.{under}
use Rattle.step_search.specs.declared.places.Places.{Places}

-- ---- places under a name

-- the name at a place is this one
abbrev pub is_at : List ℕ → List (List ℕ) → ℕ → Bool
is_at q names n = elim (slice_get names n) [ None ↦ false | Some name ↦ bytes_eq q name ]

-- the places below n at which this name stands, the last one first
unfoldable pub places_below : List ℕ → List (List ℕ) → ℕ → List ℕ
places_below q names zero = []
places_below q names (suc n) = elim (is_at q names n) [ true ↦ n ∷ places_below q names n | false ↦ places_below q names n ]

-- all places at which this name stands
abbrev pub places_in : List (List ℕ) → List ℕ → List ℕ
places_in names q = places_below q names (length names)

-- ---- what a table says

-- the last place below n at which the name stands
unfoldable pub last_below : List ℕ → List (List ℕ) → ℕ → Option ℕ
last_below q names zero = None
last_below q names (suc n) = elim (is_at q names n) [ true ↦ Some n | false ↦ last_below q names n ]

-- the last place before this one that has the same name
abbrev pub earlier_of : List (List ℕ) → ℕ → Option ℕ
earlier_of names n = elim (slice_get names n) [ None ↦ None | Some q ↦ last_below q names n ]

-- the table tells of the first n names
pub record IsTable (names : List (List ℕ)) (table : Places) (n : ℕ) : Type 0 where
  pub last : (q : List ℕ) → under table.last.entries q ≡ last_below q names n
  pub earlier : (m : ℕ) → m < n → slice_get table.earlier.items m ≡ Some (earlier_of names m)
  pub count : length table.earlier.items ≡ n

-- what is kept at a place, if it is below
abbrev pub kept_below : List (Option ℕ) → ℕ → Option ℕ
kept_below kept n = elim (slice_get kept n) [
  | None ↦ None
  | Some o ↦ elim o [ None ↦ None | Some m ↦ elim (nat_lt m n) [ true ↦ Some m | false ↦ None ] ]
]
