-- Where the pieces of a branch span a place of the text to the end of the branch, their takes take the
-- numbers of the path.
use Rattle.std.proofs.Common.{◌≡◌, refl, sym, ap, subst, ◌∙◌, ℕ, ◌<◌, ◌≤◌, true, List, [], ◌∷◌, ◌++◌, length, map, arith, inl, inr, append_assoc, append-nil, length-append}
use Rattle.std.specs.List.{list_all, AllByRecursion}
use Rattle.path_patterns.specs.Items.{IsPath, Takes, Taken}
use Rattle.path_patterns.specs.Shape.{IsPiece, MarkFits, PiecesEnd}
use Rattle.path_patterns.specs.PathItems.{any_numbers, set_takes, tail_takes, later_takes, mark_takes}
use Rattle.path_patterns.specs.Search.{path_text, SpansUnder, SpansRight, SpansPiece, SpansPieces}
use Rattle.path_patterns.specs.declared.pattern.Mark.{Mark}
use Rattle.path_patterns.specs.declared.pattern.Mark.TheVariants.{Anchor, Under, Nothing}
use Rattle.path_patterns.specs.declared.pattern.Piece.{Piece}
use Rattle.path_patterns.specs.declared.pattern.Piece.TheVariants.{Anything, Set}
use Rattle.path_patterns.specs.declared.pattern.PieceSet.{PieceSet}
use Rattle.path_patterns.proofs.PathText.{behind, path_text_none, Edge, path_left, behind_space, Start, Later}
use Rattle.path_patterns.proofs.SpansNumbers.{set_shorter}
use Rattle.path_patterns.proofs.SpansTails.{Inside, under_edge, under_behind, under_no_longer, TakenBehind, piece_taken, tails_no_longer}

-- ---- any numbers

every_number : (front : List ℕ) → list_all (λ n. true) front ≡ true
every_number [] = refl
every_number (n ∷ ns) = every_number ns

-- any numbers, so many or more, and what remains by the others
pub any_taken : (least : ℕ) (later : List Takes) (path front left : List ℕ) → path ≡ front ++ left → least ≤ length front → Taken later left → Taken (any_numbers least ∷ later) path
unfolding Taken
any_taken least later path front left e some more = (front, left, e, every_number front, (some, tt), more)

-- any numbers take a whole path
pub all_taken : (path : List ℕ) → Taken (any_numbers 0 ∷ []) path
unfolding Taken
all_taken path = any_taken 0 [] path path [] (sym (append-nil path)) (omega arith) refl

-- ---- places

-- pieces and the right mark span from a place on
abbrev pub Ends : List ℕ → List Piece → Mark → List ℕ → Type 0
Ends text ps right from = (last : List ℕ) × (to : List ℕ) × SpansPieces text ps from last × SpansRight text right last to

pub piece_shorter : (text : List ℕ) (s : PieceSet) (from to : List ℕ) → IsPiece (Set s) → SpansPiece text (Set s) from to → length to < length from
piece_shorter text s from to shape h = omega (arith, set_shorter s.words from h.0 shape.0.1 h.1, tails_no_longer text s.tails h.0 to shape.1 h.2)

-- a set doesn't span from the end of the text
set_from_some : (text : List ℕ) (s : PieceSet) (ps : List Piece) (from last : List ℕ) → IsPiece (Set s) → SpansPieces text (Set s ∷ ps) from last → 1 ≤ length from
unfolding SpansPieces
set_from_some text s [] from last shape h = omega (arith, piece_shorter text s from last shape h)
set_from_some text s (q ∷ ps) from last shape h = omega (arith, piece_shorter text s from h.0 shape h.2)

none_behind : (left : List ℕ) → behind left ≡ [] → left ≡ []
none_behind [] h = refl
none_behind (m ∷ ms) h = absurd cc

-- ---- the right mark behind a set

right_edge : (text : List ℕ) (s : PieceSet) (right : Mark) (last to : List ℕ) → MarkFits right (Set s) → Inside text last → SpansRight text right last to → Edge last
right_edge text s Anchor last to fits inside h = inl h.0
right_edge text s Under last to fits inside h = under_edge text last to h inside
right_edge text s Nothing last to fits inside h = elim fits [ ]

right_taken : (text : List ℕ) (s : PieceSet) (right : Mark) (last to : List ℕ) → MarkFits right (Set s) → SpansRight text right last to → TakenBehind text (mark_takes right) last
unfolding Taken
right_taken text s Anchor last to fits h = λ left e p inside. none_behind left (sym e ∙ h.0)
right_taken text s Under last to fits h = λ left e p inside. all_taken left
right_taken text s Nothing last to fits h = elim fits [ ]

-- ---- pieces behind another one

-- before `.*` the place lies inside of the text
abbrev pub Room : List ℕ → List Piece → List ℕ → Type 0
Room text [] place = length place ≤ length text
Room text (Anything ∷ ps) place = Inside text place
Room text (Set s ∷ ps) place = length place ≤ length text

-- what the pieces take from the start of a number on
abbrev pub PiecesTake : List ℕ → Mark → List Piece → Type 0
PiecesTake text right ps =
    (path : List ℕ) → IsPath path → AllByRecursion IsPiece ps → PiecesEnd ps right → Room text ps (path_text path) → Ends text ps right (path_text path) → Taken (later_takes ps ++ mark_takes right) path

room_inside : (text : List ℕ) (ps : List Piece) (place : List ℕ) → Inside text place → Room text ps place
room_inside text [] place h = omega arith
room_inside text (Anything ∷ ps) place h = h
room_inside text (Set s ∷ ps) place h = omega arith

set_grouped : (s : PieceSet) (ps : List Piece) (right : Mark) (path : List ℕ) → Taken (set_takes s.words ∷ (map tail_takes s.tails ++ (later_takes ps ++ mark_takes right))) path → Taken (later_takes (Set s ∷ ps) ++ mark_takes right) path
unfolding later_takes
set_grouped s ps right path h =
    subst (λ (ts : List Takes). Taken (set_takes s.words ∷ ts) path) (sym (append_assoc (map tail_takes s.tails) (later_takes ps) (mark_takes right))) h

-- a set as the last piece
last_set : (text : List ℕ) (right : Mark) (s : PieceSet) → PiecesTake text right (Set s ∷ [])
unfolding SpansPieces later_takes
last_set text right s path p shapes fits room h =
    let inside : length h.0 < length text = omega (arith, room, piece_shorter text s (path_text path) h.0 shapes.0 h.2) in
    set_grouped s [] right path (piece_taken text s (mark_takes right) path h.0 shapes.0 p room (right_edge text s right h.0 h.1 fits inside h.3) h.2 (right_taken text s right h.0 h.1 fits h.3))

under_taken : (text : List ℕ) (right : Mark) (ps : List Piece) (from next : List ℕ) → AllByRecursion IsPiece ps → PiecesEnd ps right → SpansUnder text from next → Ends text ps right next → PiecesTake text right ps → TakenBehind text (later_takes ps ++ mark_takes right) from
under_taken text right ps from next shapes fits under ends more = λ left e p inside.
    let under_left = subst (λ (t : List ℕ). SpansUnder text t next) e under in
    let at : next ≡ path_text left = under_behind text left next under_left inside in
    let inside_next : length (path_text left) < length text = omega (arith, inside, under_no_longer text (behind left) next under_left, ap (λ (t : List ℕ). length t) at) in
    more left p shapes fits (room_inside text ps (path_text left) inside_next) (subst (λ (t : List ℕ). Ends text ps right t) at ends)

-- a set before another piece
set_then : (text : List ℕ) (right : Mark) (s : PieceSet) (q : Piece) (ps : List Piece) → PiecesTake text right (q ∷ ps) → PiecesTake text right (Set s ∷ q ∷ ps)
unfolding SpansPieces
set_then text right s q ps more path p shapes fits room h =
    let inside : length h.2.0 < length text = omega (arith, room, piece_shorter text s (path_text path) h.2.0 shapes.0 h.2.2) in
    set_grouped s (q ∷ ps) right path (piece_taken text s (later_takes (q ∷ ps) ++ mark_takes right) path h.2.0 shapes.0 p room (under_edge text h.2.0 h.2.1 h.2.3 inside) h.2.2 (under_taken text right (q ∷ ps) h.2.0 h.2.1 shapes.1 fits.1 h.2.3 (h.0, h.1, h.2.4, h.3) more))

-- `.*` as the last piece
last_anything : (text : List ℕ) (right : Mark) → PiecesTake text right (Anything ∷ [])
unfolding later_takes
last_anything text Anchor path p shapes fits room h = all_taken path
last_anything text Under path p shapes fits room h = elim fits [ ]
last_anything text Nothing path p shapes fits room h = all_taken path

from_later : (text : List ℕ) (right : Mark) (s : PieceSet) (ps : List Piece) (path next : List ℕ) → IsPath path → AllByRecursion IsPiece (Set s ∷ ps) → PiecesEnd (Set s ∷ ps) right → length next ≤ length text → Ends text (Set s ∷ ps) right next → PiecesTake text right (Set s ∷ ps) → (least : ℕ) → (r : Start path next) → least ≤ length r.taken → Taken (any_numbers least ∷ (later_takes (Set s ∷ ps) ++ mark_takes right)) path
from_later text right s ps path next p shapes fits room ends more least r some =
    let room_left : length (path_text r.left) ≤ length text = subst (λ (t : List ℕ). length t ≤ length text) r.place_is room in
    any_taken least (later_takes (Set s ∷ ps) ++ mark_takes right) path r.taken r.left r.is some (more r.left (path_left r.taken r.left path r.is p) shapes fits room_left (subst (λ (t : List ℕ). Ends text (Set s ∷ ps) right t) r.place_is ends))

-- what stands behind the place is no longer than the text
suffix_length : (text front t : List ℕ) → text ≡ front ++ t → length t ≤ length text
suffix_length text front t e = omega (arith, ap (λ (x : List ℕ). length x) e, length-append front t)

-- inside of the text `_` goes on to a later number, or stays at the end
later_under : (text path front t next : List ℕ) → IsPath path → Inside text (path_text path) → path_text path ≡ front ++ t → 1 ≤ length next → SpansUnder text t next → Later path next
later_under text path front t next p inside e some (inl h) = behind_space path front next p (e ∙ ap (λ (x : List ℕ). front ++ x) h)
later_under text path front t next p inside e some (inr (same, inl h)) =
    absurd (omega (arith, inside, suffix_length (path_text path) front t e, ap (λ (x : List ℕ). length x) h))
later_under text path front t next p inside e some (inr (same, inr h)) =
    absurd (omega (arith, some, ap (λ (x : List ℕ). length x) same, ap (λ (x : List ℕ). length x) h))

-- `.*` before a set
anything_then : (text : List ℕ) (right : Mark) (s : PieceSet) (ps : List Piece) → PiecesTake text right (Set s ∷ ps) → PiecesTake text right (Anything ∷ Set s ∷ ps)
unfolding SpansPieces later_takes
anything_then text right s ps more path p shapes fits room h =
    let some = set_from_some text s ps h.2.1 h.0 shapes.1.0 h.2.4 in
    let r = later_under text path h.2.2.0 h.2.0 h.2.1 p room h.2.2.1 some h.2.3 in
    let within : length h.2.1 ≤ length text = omega (arith, room, suffix_length (path_text path) h.2.2.0 h.2.0 h.2.2.1, under_no_longer text h.2.0 h.2.1 h.2.3) in
    from_later text right s ps path h.2.1 p shapes.1 fits.1 within (h.0, h.1, h.2.4, h.3) more 1 r.start r.some

piece_then : (text : List ℕ) (right : Mark) (p : Piece) (ps : List Piece) → PiecesTake text right ps → PiecesTake text right (p ∷ ps)
piece_then text right Anything [] more = last_anything text right
piece_then text right Anything (Anything ∷ ps) more = λ path p shapes fits room h. elim fits.0 [ ]
piece_then text right Anything (Set s ∷ ps) more = anything_then text right s ps more
piece_then text right (Set s) [] more = last_set text right s
piece_then text right (Set s) (q ∷ ps) more = set_then text right s q ps more

-- pieces that span from the start of a number to the end of the branch take the numbers from there on
pub pieces_taken : (text : List ℕ) (right : Mark) (ps : List Piece) → PiecesTake text right ps
pieces_taken text right [] = λ path p shapes fits room h. elim fits [ ]
pieces_taken text right (p ∷ ps) = piece_then text right p ps (pieces_taken text right ps)

-- ---- the first piece

-- from any place of the text `_` goes on to the start of a number
pub start_under : (path front t next : List ℕ) → IsPath path → path_text path ≡ front ++ t → SpansUnder (path_text path) t next → Start path next
start_under path front t next p e (inl h) = (behind_space path front next p (e ∙ ap (λ (x : List ℕ). front ++ x) h)).start
start_under path front t next p e (inr (same, inl h)) = record { taken = []; left = path; is = refl; place_is = sym same ∙ h }
start_under path front t next p e (inr (same, inr h)) = record { taken = path; left = []; is = sym (append-nil path); place_is = sym same ∙ h ∙ sym path_text_none }

-- `_` and a set from any place of the text on
pub under_set_taken : (right : Mark) (s : PieceSet) (ps : List Piece) (path front t next : List ℕ) → IsPath path → AllByRecursion IsPiece (Set s ∷ ps) → PiecesEnd (Set s ∷ ps) right → path_text path ≡ front ++ t → SpansUnder (path_text path) t next → Ends (path_text path) (Set s ∷ ps) right next → Taken (any_numbers 0 ∷ (later_takes (Set s ∷ ps) ++ mark_takes right)) path
under_set_taken right s ps path front t next p shapes fits e under ends =
    let r = start_under path front t next p e under in
    let within : length next ≤ length (path_text path) = omega (arith, suffix_length (path_text path) front t e, under_no_longer (path_text path) t next under) in
    from_later (path_text path) right s ps path next p shapes fits within ends (pieces_taken (path_text path) right (Set s ∷ ps)) 0 r (omega arith)

-- `.*` as the first piece
pub first_anything : (right : Mark) (ps : List Piece) (path front t : List ℕ) → IsPath path → AllByRecursion IsPiece (Anything ∷ ps) → PiecesEnd (Anything ∷ ps) right → path_text path ≡ front ++ t → Ends (path_text path) (Anything ∷ ps) right t → Taken (any_numbers 0 ∷ (later_takes ps ++ mark_takes right)) path
unfolding SpansPieces later_takes
first_anything Anchor [] path front t p shapes fits e h = all_taken path
first_anything Under [] path front t p shapes fits e h = elim fits [ ]
first_anything Nothing [] path front t p shapes fits e h = all_taken path
first_anything right (Anything ∷ ps) path front t p shapes fits e h = elim fits.0 [ ]
first_anything right (Set s ∷ ps) path front t p shapes fits e h =
    let place : path_text path ≡ (front ++ h.2.2.0) ++ h.2.0 = e ∙ ap (λ (x : List ℕ). front ++ x) h.2.2.1 ∙ sym (append_assoc front h.2.2.0 h.2.0) in
    under_set_taken right s ps path (front ++ h.2.2.0) h.2.0 h.2.1 p shapes.1 fits.1 place h.2.3 (h.0, h.1, h.2.4, h.3)
