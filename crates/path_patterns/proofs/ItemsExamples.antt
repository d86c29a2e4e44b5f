-- Worked examples of items on paths that the checker computes.
use Rattle.std.proofs.Common.{◌≡◌, refl, sym, ℕ, true, false, List, [], ◌∷◌, Option, Some, None, map, inl, inr}
use Rattle.std.proofs.lemmas.Bool.{true≢false}
use Rattle.std.specs.Prelude.{◌==◌}
use Rattle.path_patterns.specs.Items.{Takes, Taken, takes_of, in_set, Matches}
use Rattle.path_patterns.specs.Rows.{fits_along, start_row, exactly, spread, rows_behind, takes_all, pattern_takes}
use Rattle.path_patterns.specs.declared.items.NumberSet.{NumberSet}
use Rattle.path_patterns.specs.declared.items.TokenPattern.{TokenPattern}
use Rattle.path_patterns.proofs.RowLaws.{takes_decides, pattern_decides}

-- so many times one number, and so many of any
abbrev only : ℕ → ℕ → Option ℕ → Takes
only m least most = record { fits = λ n. n == m; least = least; most = most }

abbrev some : ℕ → Option ℕ → Takes
some least most = record { fits = λ n. true; least = least; most = most }

-- 7, one number or more, 8
abbrev between : List Takes
between = only 7 1 (Some 1) ∷ some 1 None ∷ only 8 1 (Some 1) ∷ []

one_between : Taken between (7 ∷ 3 ∷ 8 ∷ [])
unfolding takes_all rows_behind fits_along start_row exactly spread
one_between = (takes_decides between (7 ∷ 3 ∷ 8 ∷ [])).0 refl

side_by_side : takes_all between (7 ∷ 8 ∷ []) ≡ false
unfolding takes_all rows_behind fits_along start_row exactly spread
side_by_side = refl

-- two to three times 1, and then 1: an item takes no more than leaves enough to those behind it
abbrev again : List Takes
again = only 1 2 (Some 3) ∷ only 1 1 (Some 1) ∷ []

three : Taken again (1 ∷ 1 ∷ 1 ∷ [])
unfolding takes_all rows_behind fits_along start_row exactly spread
three = (takes_decides again (1 ∷ 1 ∷ 1 ∷ [])).0 refl

two : takes_all again (1 ∷ 1 ∷ []) ≡ false
unfolding takes_all rows_behind fits_along start_row exactly spread
two = refl

-- the empty list takes the empty path alone
nothing : Taken [] []
unfolding Taken
nothing = refl

-- the numbers 1 to 3, and 7
abbrev few : NumberSet
few = record { ranges = record { least = 1; most = 3 } ∷ record { least = 7; most = 7 } ∷ [] }

is_in : in_set few 7 ≡ true
is_in = refl

is_between : in_set few 5 ≡ false
is_between = refl

-- a pattern of two branches: numbers of the set, one or more of them; or no number at all
abbrev either : TokenPattern
either = record { branches = record { items = record { set = few; least = 1; most = None } ∷ [] } ∷ record { items = [] } ∷ [] }

takes_some : Matches either (7 ∷ 2 ∷ [])
unfolding takes_all rows_behind fits_along start_row exactly spread
takes_some = inl ((takes_decides (map takes_of (record { set = few; least = 1; most = None } ∷ [])) (7 ∷ 2 ∷ [])).0 refl)

takes_no_other : Matches either (7 ∷ 5 ∷ []) → ⊥
unfolding takes_all rows_behind fits_along start_row exactly spread pattern_takes
takes_no_other h = true≢false (sym ((pattern_decides either (7 ∷ 5 ∷ [])).1 h))

takes_the_empty : Matches either []
unfolding Taken
takes_the_empty = inr (inl refl)
