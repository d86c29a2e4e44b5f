-- An IOS pattern is found in the text of a path exactly where the takes of one of its branches take the
-- numbers of the path.
use Rattle.std.proofs.Common.{◌≡◌, refl, sym, ap, subst, ◌∙◌, ℕ, List, [], ◌∷◌, ◌++◌, length, arith, inl, inr, length-append}
use Rattle.std.specs.Prelude.{decimal}
use Rattle.std.specs.List.{AllByRecursion}
use Rattle.path_patterns.specs.Items.{IsPath, Taken}
use Rattle.path_patterns.specs.Shape.{IsPiece, PiecesStart, PiecesEnd, IsBranch, IsShaped}
use Rattle.path_patterns.specs.SamePaths.{BranchesTake}
use Rattle.path_patterns.specs.PathItems.{any_numbers, later_takes, pieces_takes, mark_takes, branch_takes}
use Rattle.path_patterns.specs.Search.{path_text, SpansLeft, SpansPieces, FoundIn, Found}
use Rattle.path_patterns.specs.declared.pattern.IosBranch.{IosBranch}
use Rattle.path_patterns.specs.declared.pattern.IosBranch.TheVariants.{EmptyPath, Pieces}
use Rattle.path_patterns.specs.declared.pattern.Mark.{Mark}
use Rattle.path_patterns.specs.declared.pattern.Mark.TheVariants.{Anchor, Under, Nothing}
use Rattle.path_patterns.specs.declared.pattern.Piece.{Piece}
use Rattle.path_patterns.specs.declared.pattern.Piece.TheVariants.{Anything, Set}
use Rattle.path_patterns.proofs.PathText.{behind, path_text_is, path_text_none, decimal_some, ends_behind, path_left}
use Rattle.path_patterns.proofs.SpansTails.{behind_under}
use Rattle.path_patterns.proofs.PiecesTaken.{Ends, pieces_taken, under_set_taken, first_anything}
use Rattle.path_patterns.proofs.TakenPieces.{pieces_span, only_anything, over_numbers}

-- ---- found, so taken

no_numbers : (path : List ℕ) → IsPath path → path_text path ≡ [] → path ≡ []
no_numbers [] p e = refl
no_numbers (n ∷ ns) p e =
    absurd (omega (arith, decimal_some n p.0, length-append (decimal n) (behind ns), ap (λ (t : List ℕ). length t) (sym (path_text_is n ns) ∙ e)))

-- a branch of a left mark, pieces and a right mark, whose pieces begin at a place of the text
pieces_found : (left : Mark) (ps : List Piece) (right : Mark) (path before from first : List ℕ) → IsPath path → AllByRecursion IsPiece ps → PiecesStart left ps → PiecesEnd ps right → path_text path ≡ before ++ from → SpansLeft (path_text path) left from first → Ends (path_text path) ps right first → Taken (mark_takes left ++ (pieces_takes ps ++ mark_takes right)) path
pieces_found left [] right path before from first p shapes starts fits e l ends = elim starts [ ]
pieces_found Anchor (Anything ∷ ps) right path before from first p shapes starts fits e l ends =
    first_anything right ps path before first p shapes fits (e ∙ ap (λ (t : List ℕ). before ++ t) l.1) ends
pieces_found Nothing (Anything ∷ ps) right path before from first p shapes starts fits e l ends =
    first_anything right ps path before first p shapes fits (e ∙ ap (λ (t : List ℕ). before ++ t) l) ends
pieces_found Under (Anything ∷ ps) right path before from first p shapes starts fits e l ends = elim starts [ ]
pieces_found Anchor (Set s ∷ ps) right path before from first p shapes starts fits e l ends =
    pieces_taken (path_text path) right (Set s ∷ ps) path p shapes fits (omega arith) (subst (λ (t : List ℕ). Ends (path_text path) (Set s ∷ ps) right t) (sym l.1 ∙ l.0) ends)
pieces_found Under (Set s ∷ ps) right path before from first p shapes starts fits e l ends =
    under_set_taken right s ps path before from first p shapes fits e l ends
pieces_found Nothing (Set s ∷ ps) right path before from first p shapes starts fits e l ends = elim starts [ ]

pub branch_found : (b : IosBranch) (path : List ℕ) → IsBranch b → IsPath path → FoundIn (path_text path) b → Taken (branch_takes b) path
unfolding Taken
branch_found EmptyPath path shape p h = no_numbers path p (sym h.spans.0 ∙ h.spans.1)
branch_found (Pieces b) path shape p h =
    pieces_found b.left b.pieces b.right path h.before h.from h.spans.0 p shape.0 shape.1 shape.2 h.place h.spans.2 (h.spans.1, h.to, h.spans.3, h.spans.4)

some_found : (bs : List IosBranch) (path : List ℕ) → AllByRecursion IsBranch bs → IsPath path → Found bs path → BranchesTake bs path
some_found [] path shapes p h = elim h [ ]
some_found (b ∷ bs) path shapes p (inl h) = inl (branch_found b path shapes.0 p h)
some_found (b ∷ bs) path shapes p (inr h) = inr (some_found bs path shapes.1 p h)

-- where the pattern is found, a branch takes the numbers of the path
pub found_taken : (bs : List IosBranch) (path : List ℕ) → IsShaped bs → IsPath path → Found bs path → BranchesTake bs path
found_taken bs path shape p h = some_found bs path shape.1 p h

-- ---- taken, so found

-- marks and pieces, from a place of the text on
record FoundAt (text : List ℕ) (left : Mark) (ps : List Piece) (right : Mark) : Type 0 where
  before : List ℕ
  from : List ℕ
  first : List ℕ
  place : text ≡ before ++ from
  starts : SpansLeft text left from first
  ends : Ends text ps right first

-- from the start of the text
at_start : (text : List ℕ) (left : Mark) (ps : List Piece) (right : Mark) → SpansLeft text left text text → Ends text ps right text → FoundAt text left ps right
at_start text left ps right starts ends = record { before = []; from = text; first = text; place = refl; starts = starts; ends = ends }

-- from behind some numbers of the path, or from the start
under_numbers : (ps : List Piece) (right : Mark) (path front rest : List ℕ) → path ≡ front ++ rest → Ends (path_text path) ps right (path_text rest) → FoundAt (path_text path) Under ps right
under_numbers ps right path [] rest e ends =
    at_start (path_text path) Under ps right (inr (refl, inl refl)) (subst (λ (ns : List ℕ). Ends (path_text path) ps right (path_text ns)) (sym e) ends)
under_numbers ps right path (n ∷ ns) rest e ends =
    let b = ends_behind (n ∷ ns) rest (omega arith) in
    record { before = b.0; from = behind rest; first = path_text rest; place = ap (λ (xs : List ℕ). path_text xs) e ∙ b.1; starts = behind_under (path_text path) rest; ends = ends }

any_then : (right : Mark) (q : Piece) (ps : List Piece) (path front rest : List ℕ) → path ≡ front ++ rest → Ends (path_text path) (q ∷ ps) right (path_text rest) → Ends (path_text path) (Anything ∷ q ∷ ps) right (path_text path)
unfolding SpansPieces
any_then right q ps path [] rest e ends =
    let here = subst (λ (ns : List ℕ). Ends (path_text path) (q ∷ ps) right (path_text ns)) (sym e) ends in
    (here.0, here.1, (path_text path, path_text path, ([], refl), inr (refl, inl refl), here.2), here.3)
any_then right q ps path (n ∷ ns) rest e ends = over_numbers (path_text path) right q ps path (n ∷ ns) rest e (omega arith) ends

-- `.*` as the first piece
any_first : (ps : List Piece) (right : Mark) (path : List ℕ) → IsPath path → Taken (any_numbers 0 ∷ (later_takes ps ++ mark_takes right)) path → Ends (path_text path) (Anything ∷ ps) right (path_text path)
unfolding Taken
any_first [] right path p h = only_anything (path_text path) right (path_text path)
any_first (q ∷ ps) right path p h =
    any_then right q ps path h.0 h.1 h.2 (pieces_span (path_text path) right q ps h.1 (path_left h.0 h.1 path h.2 p) h.5)

under_found : (ps : List Piece) (right : Mark) (path : List ℕ) → IsPath path → ((rest : List ℕ) → IsPath rest → Taken (pieces_takes ps ++ mark_takes right) rest → Ends (path_text path) ps right (path_text rest)) → Taken (any_numbers 0 ∷ (pieces_takes ps ++ mark_takes right)) path → FoundAt (path_text path) Under ps right
unfolding Taken
under_found ps right path p more h = under_numbers ps right path h.0 h.1 h.2 (more h.1 (path_left h.0 h.1 path h.2 p) h.5)

pieces_found_at : (left : Mark) (ps : List Piece) (right : Mark) (path : List ℕ) → IsPath path → PiecesStart left ps → Taken (mark_takes left ++ (pieces_takes ps ++ mark_takes right)) path → FoundAt (path_text path) left ps right
pieces_found_at left [] right path p starts h = elim starts [ ]
pieces_found_at Anchor (Anything ∷ ps) right path p starts h = at_start (path_text path) Anchor (Anything ∷ ps) right (refl, refl) (any_first ps right path p h)
pieces_found_at Nothing (Anything ∷ ps) right path p starts h = at_start (path_text path) Nothing (Anything ∷ ps) right refl (any_first ps right path p h)
pieces_found_at Under (Anything ∷ ps) right path p starts h = elim starts [ ]
pieces_found_at Anchor (Set s ∷ ps) right path p starts h = at_start (path_text path) Anchor (Set s ∷ ps) right (refl, refl) (pieces_span (path_text path) right (Set s) ps path p h)
pieces_found_at Under (Set s ∷ ps) right path p starts h = under_found (Set s ∷ ps) right path p (pieces_span (path_text path) right (Set s) ps) h
pieces_found_at Nothing (Set s ∷ ps) right path p starts h = elim starts [ ]

pub branch_taken : (b : IosBranch) (path : List ℕ) → IsBranch b → IsPath path → Taken (branch_takes b) path → FoundIn (path_text path) b
unfolding Taken
branch_taken EmptyPath path shape p h =
    let empty : path_text path ≡ [] = ap (λ (ns : List ℕ). path_text ns) h ∙ path_text_none in
    record { before = []; from = path_text path; to = path_text path; place = refl; spans = (refl, empty, refl) }
branch_taken (Pieces b) path shape p h =
    let r = pieces_found_at b.left b.pieces b.right path p shape.1 h in
    record { before = r.before; from = r.from; to = r.ends.1; place = r.place; spans = (r.first, r.ends.0, r.starts, r.ends.2, r.ends.3) }

some_taken : (bs : List IosBranch) (path : List ℕ) → AllByRecursion IsBranch bs → IsPath path → BranchesTake bs path → Found bs path
some_taken [] path shapes p h = elim h [ ]
some_taken (b ∷ bs) path shapes p (inl h) = inl (branch_taken b path shapes.0 p h)
some_taken (b ∷ bs) path shapes p (inr h) = inr (some_taken bs path shapes.1 p h)

-- where a branch takes the numbers of the path, the pattern is found
pub taken_found : (bs : List IosBranch) (path : List ℕ) → IsShaped bs → IsPath path → BranchesTake bs path → Found bs path
taken_found bs path shape p h = some_taken bs path shape.1 p h
