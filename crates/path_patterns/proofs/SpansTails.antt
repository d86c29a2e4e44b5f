-- What a set and its tails span in the text of a path, and the numbers that they take.
use Rattle.std.proofs.Common.{◌≡◌, refl, sym, ap, subst, ◌∙◌, ℕ, zero, suc, ◌<◌, ◌≤◌, Bool, true, List, [], ◌∷◌, ◌++◌, length, map, arith, inl, inr}
use Rattle.std.specs.List.{list_all, AllByRecursion}
use Rattle.std.proofs.lemmas.Bool.{and_from}
use Rattle.path_patterns.specs.Items.{IsPath, Takes, AtMost, Taken}
use Rattle.path_patterns.specs.Shape.{IsDigitWord, IsTail, IsPiece}
use Rattle.path_patterns.specs.PathItems.{words_hold, least_turns, most_turns, tail_takes, set_takes}
use Rattle.path_patterns.specs.Search.{path_text, SpansUnder, SpansSet, Repeated, Allows, SpansTurn, SpansTail, SpansTails, SpansPiece}
use Rattle.path_patterns.specs.declared.pattern.DigitWord.{DigitWord}
use Rattle.path_patterns.specs.declared.pattern.PieceSet.{PieceSet}
use Rattle.path_patterns.specs.declared.pattern.Piece.TheVariants.{Set}
use Rattle.path_patterns.specs.declared.pattern.Tail.{Tail}
use Rattle.path_patterns.specs.declared.pattern.Repeat.{Repeat}
use Rattle.path_patterns.specs.declared.pattern.Repeat.TheVariants.{Star, Plus, Maybe}
use Rattle.path_patterns.proofs.PathText.{behind, path_text_none, Edge, path_left}
use Rattle.path_patterns.proofs.SpansNumbers.{NumberTaken, set_number, set_shorter}

-- ---- `_`

-- the place lies behind the start of the text
abbrev pub Inside : List ℕ → List ℕ → Type 0
Inside text place = length place < length text

-- inside the text `_` goes on from a space or the end
pub under_edge : (text from to : List ℕ) → SpansUnder text from to → Inside text from → Edge from
under_edge text from to (inl h) inside = inr (to, h)
under_edge text from to (inr (e, inl h)) inside = absurd (omega (arith, ap (λ (t : List ℕ). length t) h))
under_edge text from to (inr (e, inr h)) inside = inl h

-- behind a number of the text `_` goes on to the next number, or stays at the end
pub under_behind : (text left to : List ℕ) → SpansUnder text (behind left) to → Inside text (behind left) → to ≡ path_text left
under_behind text [] to (inl h) inside = absurd cc
under_behind text [] to (inr h) inside = sym h.0 ∙ sym path_text_none
under_behind text (m ∷ ms) to (inl h) inside = cc
under_behind text (m ∷ ms) to (inr (e, inl h)) inside = absurd (omega (arith, ap (λ (t : List ℕ). length t) h))
under_behind text (m ∷ ms) to (inr (e, inr h)) inside = absurd cc

pub behind_under : (text left : List ℕ) → SpansUnder text (behind left) (path_text left)
behind_under text [] = inr (sym path_text_none, inr refl)
behind_under text (m ∷ ms) = inl refl

pub under_no_longer : (text from to : List ℕ) → SpansUnder text from to → length to ≤ length from
under_no_longer text from to (inl h) = omega (arith, ap (λ (t : List ℕ). length t) h)
under_no_longer text from to (inr h) = omega (arith, ap (λ (t : List ℕ). length t) h.0)

-- ---- turns of a tail

turn_shorter : (text : List ℕ) (ws : List DigitWord) (from to : List ℕ) → AllByRecursion IsDigitWord ws → SpansTurn text ws from to → length to < length from
turn_shorter text ws from to shape h = omega (arith, under_no_longer text from h.0 h.1, set_shorter ws h.0 to shape h.2)

turns_no_longer : (text : List ℕ) (ws : List DigitWord) → AllByRecursion IsDigitWord ws → (n : ℕ) (from to : List ℕ) → Repeated (SpansTurn text ws) n from to → length to ≤ length from
unfolding Repeated
turns_no_longer text ws shape zero from to h = omega (arith, ap (λ (t : List ℕ). length t) h)
turns_no_longer text ws shape (suc n) from to h = omega (arith, turn_shorter text ws from h.0 shape h.1, turns_no_longer text ws shape n h.0 to h.2)

turns_edge : (text : List ℕ) (ws : List DigitWord) (n : ℕ) (from to : List ℕ) → Repeated (SpansTurn text ws) n from to → Inside text from → Edge to → Edge from
unfolding Repeated
turns_edge text ws zero from to h inside edge = subst (λ (t : List ℕ). Edge t) (sym h) edge
turns_edge text ws (suc n) from to h inside edge = under_edge text from h.1.0 h.1.1 inside

turn_number : (text : List ℕ) (ws : List DigitWord) (left to : List ℕ) → AllByRecursion IsDigitWord ws → IsPath left → Inside text (behind left) → Edge to → SpansTurn text ws (behind left) to → NumberTaken (words_hold ws) left to
turn_number text ws left to shape p inside edge h =
    set_number ws left to shape p edge (subst (λ (from : List ℕ). SpansSet ws from to) (under_behind text left h.0 h.1 inside) h.2)

-- a place behind so many numbers of a path, each of them in the set
pub record NumbersTaken (fits : ℕ → Bool) (n : ℕ) (path : List ℕ) (place : List ℕ) : Type 0 where
  pub front : List ℕ
  pub left : List ℕ
  pub is : path ≡ front ++ left
  pub holds : list_all fits front ≡ true
  pub count : length front ≡ n
  pub place_is : place ≡ behind left

numbers_more : (fits : ℕ → Bool) (n : ℕ) (path mid place : List ℕ) → (first : NumberTaken fits path mid) → NumbersTaken fits n first.left place → NumbersTaken fits (suc n) path place
numbers_more fits n path mid place first r = record {
  front = first.number ∷ r.front;
  left = r.left;
  is = first.is ∙ ap (λ (ns : List ℕ). first.number ∷ ns) r.is;
  holds = and_from (fits first.number) (list_all fits r.front) first.holds r.holds;
  count = ap (λ (k : ℕ). suc k) r.count;
  place_is = r.place_is;
}

turns_numbers : (text : List ℕ) (ws : List DigitWord) → AllByRecursion IsDigitWord ws → (n : ℕ) (left to : List ℕ) → IsPath left → Inside text (behind left) → Edge to → Repeated (SpansTurn text ws) n (behind left) to → NumbersTaken (words_hold ws) n left to
unfolding Repeated
turns_numbers text ws shape zero left to p inside edge h = record { front = []; left = left; is = refl; holds = refl; count = refl; place_is = sym h }
turns_numbers text ws shape (suc n) left to p inside edge h =
    let short = turn_shorter text ws (behind left) h.0 shape h.1 in
    let first = turn_number text ws left h.0 shape p inside (turns_edge text ws n h.0 to h.2 (omega (arith, short)) edge) h.1 in
    let inside_next : length (behind first.left) < length text = omega (arith, short, ap (λ (t : List ℕ). length t) first.place_is) in
    numbers_more (words_hold ws) n left h.0 to first (turns_numbers text ws shape n first.left to (path_left (first.number ∷ []) first.left left first.is p) inside_next edge (subst (λ (t : List ℕ). Repeated (SpansTurn text ws) n t to) first.place_is h.2))

-- ---- tails

tail_no_longer : (text : List ℕ) (t : Tail) (from to : List ℕ) → IsTail t → SpansTail text t from to → length to ≤ length from
tail_no_longer text t from to shape h = turns_no_longer text t.words shape.1 h.0 from to h.2

pub tails_no_longer : (text : List ℕ) (ts : List Tail) (from to : List ℕ) → AllByRecursion IsTail ts → SpansTails text ts from to → length to ≤ length from
unfolding SpansTails
tails_no_longer text [] from to shape h = omega (arith, ap (λ (x : List ℕ). length x) h)
tails_no_longer text (t ∷ ts) from to shape h = omega (arith, tail_no_longer text t from h.0 shape.0 h.1, tails_no_longer text ts h.0 to shape.1 h.2)

tails_edge : (text : List ℕ) (ts : List Tail) (from to : List ℕ) → AllByRecursion IsTail ts → SpansTails text ts from to → Inside text from → Edge to → Edge from
unfolding SpansTails
tails_edge text [] from to shape h inside edge = subst (λ (t : List ℕ). Edge t) (sym h) edge
tails_edge text (t ∷ ts) from to shape h inside edge =
    turns_edge text t.words h.1.0 from h.0 h.1.2 inside (tails_edge text ts h.0 to shape.1 h.2 (omega (arith, tail_no_longer text t from h.0 shape.0 h.1)) edge)

turns_counted : (r : Repeat) (n : ℕ) → Allows r n → (least_turns r ≤ n) × AtMost n (most_turns r)
turns_counted Star n h = (omega arith, tt)
turns_counted Plus n h = (h, tt)
turns_counted Maybe n h = (omega arith, h)

pub counted_turns : (r : Repeat) (n : ℕ) → (least_turns r ≤ n) × AtMost n (most_turns r) → Allows r n
counted_turns Star n h = tt
counted_turns Plus n h = h.0
counted_turns Maybe n h = h.1

-- the takes that stand behind a place take the numbers that are left there
abbrev pub TakenBehind : List ℕ → List Takes → List ℕ → Type 0
TakenBehind text later to = (left : List ℕ) → to ≡ behind left → IsPath left → Inside text (behind left) → Taken later left

tail_taken : (t : Tail) (later : List Takes) (n : ℕ) (left mid : List ℕ) → Allows t.repeat n → (r : NumbersTaken (words_hold t.words) n left mid) → Taken later r.left → Taken (tail_takes t ∷ later) left
unfolding Taken
tail_taken t later n left mid allowed r more =
    (r.front, r.left, r.is, r.holds, turns_counted t.repeat (length r.front) (subst (λ (k : ℕ). Allows t.repeat k) (sym r.count) allowed), more)

tails_taken : (text : List ℕ) (ts : List Tail) (later : List Takes) (left to : List ℕ) → AllByRecursion IsTail ts → IsPath left → Inside text (behind left) → Edge to → SpansTails text ts (behind left) to → TakenBehind text later to → Taken (map tail_takes ts ++ later) left
unfolding SpansTails
tails_taken text [] later left to shape p inside edge h more = more left (sym h) p inside
tails_taken text (t ∷ ts) later left to shape p inside edge h more =
    let short = tail_no_longer text t (behind left) h.0 shape.0 h.1 in
    let edge_mid = tails_edge text ts h.0 to shape.1 h.2 (omega (arith, short)) edge in
    let r = turns_numbers text t.words shape.0.1 h.1.0 left h.0 p inside edge_mid h.1.2 in
    let inside_next : length (behind r.left) < length text = omega (arith, short, ap (λ (x : List ℕ). length x) r.place_is) in
    tail_taken t (map tail_takes ts ++ later) h.1.0 left h.0 h.1.1 r (tails_taken text ts later r.left to shape.1 (path_left r.front r.left left r.is p) inside_next edge (subst (λ (x : List ℕ). SpansTails text ts x to) r.place_is h.2) more)

-- ---- a set and its tails

set_taken : (ws : List DigitWord) (later : List Takes) (path mid : List ℕ) → (r : NumberTaken (words_hold ws) path mid) → Taken later r.left → Taken (set_takes ws ∷ later) path
unfolding Taken
set_taken ws later path mid r more =
    (r.number ∷ [], r.left, r.is, and_from (words_hold ws r.number) true r.holds refl, (omega arith, omega arith), more)

-- from the start of a number a set and its tails take numbers, where the place behind them is an edge
pub piece_taken : (text : List ℕ) (s : PieceSet) (later : List Takes) (path to : List ℕ) → IsPiece (Set s) → IsPath path → length (path_text path) ≤ length text → Edge to → SpansPiece text (Set s) (path_text path) to → TakenBehind text later to → Taken (set_takes s.words ∷ (map tail_takes s.tails ++ later)) path
piece_taken text s later path to shape p within edge h more =
    let short = set_shorter s.words (path_text path) h.0 shape.0.1 h.1 in
    let edge_mid = tails_edge text s.tails h.0 to shape.1 h.2 (omega (arith, short, within)) edge in
    let r = set_number s.words path h.0 shape.0.1 p edge_mid h.1 in
    let inside_next : length (behind r.left) < length text = omega (arith, short, within, ap (λ (x : List ℕ). length x) r.place_is) in
    set_taken s.words (map tail_takes s.tails ++ later) path h.0 r (tails_taken text s.tails later r.left to shape.1 (path_left (r.number ∷ []) r.left path r.is p) inside_next edge (subst (λ (x : List ℕ). SpansTails text s.tails x to) r.place_is h.2) more)
