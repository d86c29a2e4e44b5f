-- Where the takes of a branch take the numbers of a path, its pieces span the text from place to place.
use Rattle.std.proofs.Common.{◌≡◌, refl, sym, ap, subst, ◌∙◌, ℕ, ◌≤◌, true, List, [], ◌∷◌, ◌++◌, length, map, arith, inr, append_assoc, append-nil}
use Rattle.std.specs.List.{list_all}
use Rattle.std.proofs.lemmas.Bool.{and_parts}
use Rattle.path_patterns.specs.Items.{IsPath, Takes, Taken}
use Rattle.path_patterns.specs.PathItems.{words_hold, set_takes, tail_takes, later_takes, mark_takes}
use Rattle.path_patterns.specs.Search.{path_text, SpansRight, Repeated, SpansTurn, SpansTails, SpansPiece, SpansPieces}
use Rattle.path_patterns.specs.declared.pattern.Mark.{Mark}
use Rattle.path_patterns.specs.declared.pattern.Mark.TheVariants.{Anchor, Under, Nothing}
use Rattle.path_patterns.specs.declared.pattern.Piece.{Piece}
use Rattle.path_patterns.specs.declared.pattern.Piece.TheVariants.{Anything, Set}
use Rattle.path_patterns.specs.declared.pattern.PieceSet.{PieceSet}
use Rattle.path_patterns.specs.declared.pattern.DigitWord.{DigitWord}
use Rattle.path_patterns.specs.declared.pattern.Tail.{Tail}
use Rattle.path_patterns.proofs.PathText.{behind, ends_behind, path_left}
use Rattle.path_patterns.proofs.SpansNumbers.{number_set}
use Rattle.path_patterns.proofs.SpansTails.{behind_under, counted_turns}
use Rattle.path_patterns.proofs.PiecesTaken.{Ends}

-- ---- a set and its tails

turns_span : (text : List ℕ) (ws : List DigitWord) (front left : List ℕ) → IsPath (front ++ left) → list_all (words_hold ws) front ≡ true → Repeated (SpansTurn text ws) (length front) (behind (front ++ left)) (behind left)
unfolding Repeated
turns_span text ws [] left p h = refl
turns_span text ws (n ∷ ns) left p h =
    let parts = and_parts (words_hold ws n) (list_all (words_hold ws) ns) h in
    (behind (ns ++ left), (path_text (n ∷ (ns ++ left)), behind_under text (n ∷ (ns ++ left)), number_set ws n (ns ++ left) p.0 parts.0), turns_span text ws ns left p.1 parts.1)

-- numbers that are left where something spans to the place before them
record Spanned (P : List ℕ → Type 0) (later : List Takes) : Type 0 where
  left : List ℕ
  numbers : IsPath left
  spans : P (behind left)
  taken : Taken later left

tails_span : (text : List ℕ) (ts : List Tail) (later : List Takes) (path : List ℕ) → IsPath path → Taken (map tail_takes ts ++ later) path → Spanned (SpansTails text ts (behind path)) later
unfolding SpansTails Taken
tails_span text [] later path p h = record { left = path; numbers = p; spans = refl; taken = h }
tails_span text (t ∷ ts) later path p h =
    let r = tails_span text ts later h.1 (path_left h.0 h.1 path h.2 p) h.5 in
    let turns = turns_span text t.words h.0 h.1 (subst (λ (ns : List ℕ). IsPath ns) h.2 p) h.3 in
    record {
      left = r.left;
      numbers = r.numbers;
      spans = (behind h.1, (length h.0, counted_turns t.repeat (length h.0) h.4, subst (λ (ns : List ℕ). Repeated (SpansTurn text t.words) (length h.0) (behind ns) (behind h.1)) (sym h.2) turns), r.spans);
      taken = r.taken;
    }

set_then_tails : (text : List ℕ) (s : PieceSet) (later : List Takes) (n : ℕ) (left : List ℕ) → IsPath (n ∷ left) → words_hold s.words n ≡ true → Taken (map tail_takes s.tails ++ later) left → Spanned (SpansPiece text (Set s) (path_text (n ∷ left))) later
set_then_tails text s later n left p h more =
    let r = tails_span text s.tails later left p.1 more in
    record { left = r.left; numbers = r.numbers; spans = (behind left, number_set s.words n left p.0 h, r.spans); taken = r.taken }

one_number : (text : List ℕ) (s : PieceSet) (later : List Takes) (path front left : List ℕ) → IsPath path → path ≡ front ++ left → list_all (words_hold s.words) front ≡ true → 1 ≤ length front → length front ≤ 1 → Taken (map tail_takes s.tails ++ later) left → Spanned (SpansPiece text (Set s) (path_text path)) later
one_number text s later path [] left p e h some most more = absurd (omega arith)
one_number text s later path (n ∷ []) left p e h some most more =
    subst (λ (ns : List ℕ). Spanned (SpansPiece text (Set s) (path_text ns)) later) (sym e) (set_then_tails text s later n left (subst (λ (ns : List ℕ). IsPath ns) e p) (and_parts (words_hold s.words n) true h).0 more)
one_number text s later path (n ∷ m ∷ ms) left p e h some most more = absurd (omega arith)

piece_spans : (text : List ℕ) (s : PieceSet) (later : List Takes) (path : List ℕ) → IsPath path → Taken (set_takes s.words ∷ (map tail_takes s.tails ++ later)) path → Spanned (SpansPiece text (Set s) (path_text path)) later
unfolding Taken
piece_spans text s later path p h = one_number text s later path h.0 h.1 p h.2 h.3 h.4.0 h.4.1 h.5

-- ---- the right mark

right_behind : (text : List ℕ) (right : Mark) (left : List ℕ) → Taken (mark_takes right) left → (to : List ℕ) × SpansRight text right (behind left) to
unfolding Taken
right_behind text Anchor left h = (behind left, (ap (λ (ns : List ℕ). behind ns) h, refl))
right_behind text Under left h = (path_text left, behind_under text left)
right_behind text Nothing left h = (behind left, refl)

right_at_end : (text : List ℕ) (right : Mark) → SpansRight text right [] []
right_at_end text Anchor = (refl, refl)
right_at_end text Under = inr (refl, inr refl)
right_at_end text Nothing = refl

-- ---- pieces

set_apart : (s : PieceSet) (ps : List Piece) (right : Mark) (path : List ℕ) → Taken (later_takes (Set s ∷ ps) ++ mark_takes right) path → Taken (set_takes s.words ∷ (map tail_takes s.tails ++ (later_takes ps ++ mark_takes right))) path
unfolding later_takes
set_apart s ps right path h =
    subst (λ (ts : List Takes). Taken (set_takes s.words ∷ ts) path) (append_assoc (map tail_takes s.tails) (later_takes ps) (mark_takes right)) h

-- the pieces span from the start of the numbers that they take to the end of the branch
abbrev pub PiecesSpan : List ℕ → Mark → List Piece → Type 0
PiecesSpan text right ps =
    (path : List ℕ) → IsPath path → Taken (later_takes ps ++ mark_takes right) path → Ends text ps right (path_text path)

last_set : (text : List ℕ) (right : Mark) (s : PieceSet) → PiecesSpan text right (Set s ∷ [])
unfolding SpansPieces later_takes
last_set text right s path p h =
    let r = piece_spans text s (mark_takes right) path p (set_apart s [] right path h) in
    let m = right_behind text right r.left r.taken in
    (behind r.left, m.0, r.spans, m.1)

set_then : (text : List ℕ) (right : Mark) (s : PieceSet) (q : Piece) (ps : List Piece) → PiecesSpan text right (q ∷ ps) → PiecesSpan text right (Set s ∷ q ∷ ps)
unfolding SpansPieces
set_then text right s q ps more path p h =
    let r = piece_spans text s (later_takes (q ∷ ps) ++ mark_takes right) path p (set_apart s (q ∷ ps) right path h) in
    let ends = more r.left r.numbers r.taken in
    (ends.0, ends.1, (behind r.left, path_text r.left, r.spans, behind_under text r.left, ends.2), ends.3)

pub only_anything : (text : List ℕ) (right : Mark) (from : List ℕ) → Ends text (Anything ∷ []) right from
unfolding SpansPieces
only_anything text right from = ([], [], (from, sym (append-nil from)), right_at_end text right)

-- `.*` and `_` before numbers that are left
pub over_numbers : (text : List ℕ) (right : Mark) (q : Piece) (ps : List Piece) (path front left : List ℕ) → path ≡ front ++ left → 1 ≤ length front → Ends text (q ∷ ps) right (path_text left) → Ends text (Anything ∷ q ∷ ps) right (path_text path)
unfolding SpansPieces
over_numbers text right q ps path front left e some ends =
    let b = ends_behind front left some in
    (ends.0, ends.1, (behind left, path_text left, (b.0, ap (λ (ns : List ℕ). path_text ns) e ∙ b.1), behind_under text left, ends.2), ends.3)

anything_then : (text : List ℕ) (right : Mark) (q : Piece) (ps : List Piece) → PiecesSpan text right (q ∷ ps) → PiecesSpan text right (Anything ∷ q ∷ ps)
unfolding Taken later_takes
anything_then text right q ps more path p h =
    over_numbers text right q ps path h.0 h.1 h.2 h.4.0 (more h.1 (path_left h.0 h.1 path h.2 p) h.5)

pub pieces_span : (text : List ℕ) (right : Mark) (p : Piece) (ps : List Piece) → PiecesSpan text right (p ∷ ps)
pieces_span text right Anything [] = λ path p h. only_anything text right (path_text path)
pieces_span text right Anything (q ∷ ps) = anything_then text right q ps (pieces_span text right q ps)
pieces_span text right (Set s) [] = last_set text right s
pieces_span text right (Set s) (q ∷ ps) = set_then text right s q ps (pieces_span text right q ps)
