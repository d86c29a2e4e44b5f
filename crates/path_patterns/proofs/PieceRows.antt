-- The rows behind the pieces of a branch, one after the other, and the digits of a number.
use Rattle.std.proofs.Common.{◌≡◌, refl, sym, ap, ◌∙◌, ℕ, Bool, List, [], ◌∷◌, ◌++◌}
use Rattle.path_patterns.specs.Items.{Takes}
use Rattle.path_patterns.specs.PathItems.{later_takes, pieces_takes, mark_takes}
use Rattle.path_patterns.specs.Rows.{rows_behind, row_step, fits_along, later_piece, later_rows}
use Rattle.path_patterns.specs.declared.pattern.Mark.{Mark}
use Rattle.path_patterns.specs.declared.pattern.Piece.{Piece}
use Rattle.path_patterns.specs.declared.pattern.Piece.TheVariants.{Anything, Set}

-- the row behind items of two lists, one after the other
pub rows_behind_append : (ts us : List Takes) (path : List ℕ) (row : List Bool) → rows_behind (ts ++ us) path row ≡ rows_behind us path (rows_behind ts path row)
unfolding rows_behind
rows_behind_append [] us path row = refl
rows_behind_append (t ∷ ts) us path row = rows_behind_append ts us path (row_step t.least t.most (fits_along t.fits path) row)

later_is : (p : Piece) (ps : List Piece) → later_takes (p ∷ ps) ≡ later_piece p ps ++ later_takes ps
unfolding later_takes
later_is Anything [] = refl
later_is Anything (p ∷ ps) = refl
later_is (Set s) ps = refl

-- the row behind pieces that stand behind another one
pub later_rows_behind : (ps : List Piece) (path : List ℕ) (row : List Bool) → later_rows ps path row ≡ rows_behind (later_takes ps) path row
unfolding later_rows rows_behind later_takes
later_rows_behind [] path row = refl
later_rows_behind (p ∷ ps) path row =
    later_rows_behind ps path (rows_behind (later_piece p ps) path row)
    ∙ sym (rows_behind_append (later_piece p ps) (later_takes ps) path row)
    ∙ sym (ap (λ (ts : List Takes). rows_behind ts path row) (later_is p ps))

-- the row behind a mark, pieces and a mark
pub behind_both : (left right : Mark) (ps : List Piece) (path : List ℕ) (row : List Bool) → rows_behind (mark_takes left ++ (pieces_takes ps ++ mark_takes right)) path row ≡ rows_behind (mark_takes right) path (rows_behind (pieces_takes ps) path (rows_behind (mark_takes left) path row))
behind_both left right ps path row =
    rows_behind_append (mark_takes left) (pieces_takes ps ++ mark_takes right) path row
    ∙ rows_behind_append (pieces_takes ps) (mark_takes right) path (rows_behind (mark_takes left) path row)
