-- How items match a path in one walk over it for each of them. A row tells of each place of a path, from
-- the one before its first number to the one behind its last, whether what stands before that place can
-- be taken. What the walks mean is in `proofs/RowSteps`, and that items so take what `Items` says in
-- `proofs/RowLaws`.
use Rattle.std.specs.Prelude.{ℕ, zero, suc, ◌-◌, Bool, true, false, ◌&&◌, ◌==◌, nat_le, cond, List, [], ◌∷◌, Option, Some, None, map, length, get_or}
use Rattle.std.specs.List.{list_any}
use Rattle.path_patterns.specs.Items.{Takes, takes_of}
use Rattle.path_patterns.specs.PathItems.{word_fits, any_numbers, set_takes, tail_takes, branch_takes}
use Rattle.path_patterns.specs.declared.items.TokenPattern.{TokenPattern}
use Rattle.path_patterns.specs.declared.row_steps.Room.{Room}
use Rattle.path_patterns.specs.declared.row_steps.Room.TheVariants.{Unreached, UpTo, Unlimited}
use Rattle.path_patterns.specs.declared.pattern.IosBranch.{IosBranch}
use Rattle.path_patterns.specs.declared.pattern.DigitWord.{DigitWord}
use Rattle.path_patterns.specs.declared.pattern.Piece.{Piece}
use Rattle.path_patterns.specs.declared.pattern.Piece.TheVariants.{Anything, Set}

-- of each place, whether the number behind it fits; none stands behind the last place
unfoldable pub fits_along : (ℕ → Bool) → List ℕ → List Bool
fits_along f [] = false ∷ []
fits_along f (n ∷ ns) = f n ∷ fits_along f ns

-- the row before any item: what stands before the first place is taken, and no more
unfoldable pub start_row : List ℕ → List Bool
start_row path = true ∷ map (λ _. false) path

-- ---- exactly so many numbers

-- one less, down to 0
abbrev pub one_less : ℕ → ℕ
one_less zero = zero
one_less (suc n) = n

-- how many numbers have to fit yet, behind one that does or doesn't
abbrev pub still_needed : ℕ → ℕ → Bool → ℕ
still_needed least need true = one_less need
still_needed least need false = least

-- whether the first place of a row is one
abbrev pub is_start : List Bool → Bool
is_start [] = false
is_start (r ∷ rs) = r

-- the row behind its first place
abbrev pub later_places : List Bool → List Bool
later_places [] = []
later_places (r ∷ rs) = rs

-- whether the first place of a row leads to this one, when no number is waited for and none needed
abbrev pub reached_now : ℕ → ℕ → List Bool → Bool
reached_now (suc wait) need row = false
reached_now zero need row = is_start row && need == 0

-- the row behind its first place, when no number is waited for
abbrev pub row_behind : ℕ → List Bool → List Bool
row_behind (suc wait) row = row
row_behind zero row = later_places row

-- the row of the places that lie exactly `least` fitting numbers behind a place of the row; the row is `wait`
-- places behind, and `need` numbers have to fit yet until `least` in a row do
unfoldable pub exactly : ℕ → ℕ → ℕ → List Bool → List Bool → List Bool
exactly least wait need [] row = []
exactly least wait need (f ∷ fs) row =
    reached_now wait need row ∷ exactly least (one_less wait) (still_needed least need f) fs (row_behind wait row)

-- ---- and some more

-- a place is reached
abbrev pub is_reached : Room → Bool
is_reached Unreached = false
is_reached (UpTo more) = true
is_reached Unlimited = true

-- what may be taken behind one number that fits or doesn't
abbrev pub room_behind : Room → Bool → Room
room_behind Unreached f = Unreached
room_behind (UpTo zero) f = Unreached
room_behind (UpTo (suc more)) true = UpTo more
room_behind (UpTo (suc more)) false = Unreached
room_behind Unlimited true = Unlimited
room_behind Unlimited false = Unreached

-- what may be taken at a place: all the room at a place of the row, else what is left
abbrev pub room_at : Room → Room → Bool → Room
room_at room left true = room
room_at room left false = left

-- the row of the places that lie some more fitting numbers behind a place of the row; `left` is what may be
-- taken here from the places before
unfoldable pub spread : Room → Room → List Bool → List Bool → List Bool
spread room left [] row = []
spread room left (f ∷ fs) row =
    is_reached (room_at room left (is_start row)) ∷ spread room (room_behind (room_at room left (is_start row)) f) fs (later_places row)

-- what may be taken beyond the least count
abbrev pub room_between : ℕ → Option ℕ → Room
room_between least None = Unlimited
room_between least (Some most) = cond (nat_le least most) (UpTo (most - least)) Unreached

-- ---- items

-- the row behind an item, of numbers that fit as told
abbrev pub row_step : ℕ → Option ℕ → List Bool → List Bool → List Bool
row_step least most fs row = spread (room_between least most) Unreached fs (exactly least least least fs row)

-- the row behind items
unfoldable pub rows_behind : List Takes → List ℕ → List Bool → List Bool
rows_behind [] path row = row
rows_behind (t ∷ ts) path row = rows_behind ts path (row_step t.least t.most (fits_along t.fits path) row)

-- the last place of a path is reached
abbrev pub ends_reached : List ℕ → List Bool → Bool
ends_reached path row = get_or row (length path) false

-- items take a whole path
unfoldable pub takes_all : List Takes → List ℕ → Bool
takes_all ts path = ends_reached path (rows_behind ts path (start_row path))

-- some branch takes the whole path
unfoldable pub pattern_takes : TokenPattern → List ℕ → Bool
pattern_takes p path = list_any (λ b. takes_all (map takes_of b.items) path) p.branches

-- ---- the pieces of an IOS pattern

-- one of the words spells these digits
abbrev pub words_fit : List DigitWord → List ℕ → Bool
words_fit ws ds = list_any (λ w. word_fits w ds) ws

-- what a piece takes that stands behind another one, by the pieces that stand behind it
abbrev pub later_piece : Piece → List Piece → List Takes
later_piece Anything [] = any_numbers 0 ∷ []
later_piece Anything (p ∷ ps) = any_numbers 1 ∷ []
later_piece (Set s) ps = set_takes s.words ∷ map tail_takes s.tails

-- the row behind pieces that stand behind another one
unfoldable pub later_rows : List Piece → List ℕ → List Bool → List Bool
later_rows [] path row = row
later_rows (p ∷ ps) path row = later_rows ps path (rows_behind (later_piece p ps) path row)

-- some branch of an IOS pattern takes the whole path
unfoldable pub branches_take : List IosBranch → List ℕ → Bool
branches_take bs path = list_any (λ b. takes_all (branch_takes b) path) bs
