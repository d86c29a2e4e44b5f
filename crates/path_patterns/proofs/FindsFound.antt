-- The search as a function answers by the relation: `finds_in` is true exactly where the pattern is found.
use Rattle.std.proofs.Common.{◌≡◌, refl, sym, ap, subst, ◌∙◌, ℕ, zero, suc, ◌+◌, ◌<◌, ◌≤◌, Bool, true, ◌&&◌, ◌||◌, List, [], ◌∷◌, ◌++◌, length, arith, inl, inr, ◌⊎◌}
use Rattle.std.specs.Prelude.{bytes_eq}
use Rattle.std.specs.Bool.{Decides}
use Rattle.std.proofs.lemmas.Bool.Decides.{Decides-and, Decides-or, Decides-like}
use Rattle.std.proofs.lemmas.List.{length-append}
use Rattle.std.proofs.lemmas.Slice.Eq.{bytes_eq-Decides}
use Rattle.path_patterns.specs.Search.{path_text, SpansUnder, SpansLeft, SpansRight, SpansDigits, SpansWord, SpansSet, Repeated, Allows, SpansTurn, SpansTails, SpansPiece, SpansPieces, SpansBranch, FoundIn, Found}
use Rattle.path_patterns.specs.Finds.{under_then, set_then, turn_then, turns_then, repeat_then, tails_then, anything_then, piece_then, pieces_then, left_then, right_holds, branch_from, found_in, finds_in}
use Rattle.path_patterns.specs.declared.pattern.IosBranch.{IosBranch}
use Rattle.path_patterns.specs.declared.pattern.IosBranch.TheVariants.{EmptyPath, Pieces}
use Rattle.path_patterns.specs.declared.pattern.Mark.{Mark}
use Rattle.path_patterns.specs.declared.pattern.Mark.TheVariants.{Anchor, Under, Nothing}
use Rattle.path_patterns.specs.declared.pattern.Piece.{Piece}
use Rattle.path_patterns.specs.declared.pattern.Piece.TheVariants.{Anything, Set}
use Rattle.path_patterns.specs.declared.pattern.DigitWord.{DigitWord}
use Rattle.path_patterns.specs.declared.pattern.DigitWord.TheVariants.{Any, Digits}
use Rattle.path_patterns.specs.declared.pattern.DigitSet.{DigitSet}
use Rattle.path_patterns.specs.declared.pattern.Tail.{Tail}
use Rattle.path_patterns.specs.declared.pattern.Repeat.{Repeat}
use Rattle.path_patterns.specs.declared.pattern.Repeat.TheVariants.{Star, Plus, Maybe}
use Rattle.path_patterns.proofs.Lists.{any_decides}
use Rattle.path_patterns.proofs.FindsTurns.{Leads, Answers, head_is, under_decides, set_decides, turn_decides, Turns, turns_decides}

-- ---- a turn goes further, or it stays where it is

abbrev Further : List ℕ → List ℕ → Type 0
Further from to = (from ≡ to) ⊎ (length to < length from)

further_digits : (ss : List DigitSet) (from to : List ℕ) → SpansDigits ss from to → Further from to
unfolding SpansDigits
further_digits [] from to h = inl h
further_digits (s ∷ ss) from to h =
    let e : length from ≡ suc (length h.1) = ap (λ (xs : List ℕ). length xs) h.3 in
    inr (behind (further_digits ss h.1 to h.4) e)
  where
    behind : {mid : List ℕ} → Further mid to → length from ≡ suc (length mid) → length to < length from
    behind {mid} (inl f) e = let g : length mid ≡ length to = ap (λ (xs : List ℕ). length xs) f in omega (arith, e, g)
    behind (inr l) e = omega (arith, e, l)

further_word : (w : DigitWord) (from to : List ℕ) → SpansWord w from to → Further from to
further_word Any from to h =
    let e : length from ≡ length h.0 + length to = ap (λ (xs : List ℕ). length xs) h.1 ∙ length-append h.0 to in
    inr (omega (arith, e, h.2))
further_word (Digits ss) from to h = further_digits ss from to h

further_set : (ws : List DigitWord) (from to : List ℕ) → SpansSet ws from to → Further from to
further_set [] from to h = absurd h
further_set (w ∷ ws) from to (inl h) = further_word w from to h
further_set (w ∷ ws) from to (inr h) = further_set ws from to h

then_further : (from mid to : List ℕ) → Further from mid → Further mid to → Further from to
then_further from mid to (inl e) f = subst (λ p. Further p to) (sym e) f
then_further from mid to (inr l) (inl e) = inr (subst (λ p. length p < length from) e l)
then_further from mid to (inr l) (inr m) = inr (omega (arith, l, m))

further_under : (text from to : List ℕ) → SpansUnder text from to → Further from to
further_under text from to (inl e) = let f : length from ≡ suc (length to) = ap (λ (xs : List ℕ). length xs) e in inr (omega (arith, f))
further_under text from to (inr h) = inl h.0

further_turn : (text : List ℕ) (ws : List DigitWord) (from to : List ℕ) → SpansTurn text ws from to → Further from to
further_turn text ws from to h = then_further from h.0 to (further_under text from h.0 h.1) (further_set ws h.0 to h.2)

-- turns that stay can be left out, so there are no more turns than characters
fewer_turns : (text : List ℕ) (ws : List DigitWord) (n : ℕ) (from to : List ℕ) → Repeated (SpansTurn text ws) n from to → (m : ℕ) × (m ≤ length from) × Repeated (SpansTurn text ws) m from to
unfolding Repeated
fewer_turns text ws zero from to h = (zero, omega arith, h)
fewer_turns text ws (suc n) from to h =
    let more = fewer_turns text ws n h.0 to h.2 in
    with_turn (further_turn text ws from h.0 h.1) more
  where
    with_turn : Further from h.0 → ((m : ℕ) × (m ≤ length h.0) × Repeated (SpansTurn text ws) m h.0 to) → (m : ℕ) × (m ≤ length from) × Repeated (SpansTurn text ws) m from to
    with_turn (inl e) more = (more.0, subst (λ p. more.0 ≤ length p) (sym e) more.1, subst (λ p. Repeated (SpansTurn text ws) more.0 p to) (sym e) more.2)
    with_turn (inr l) more = (suc more.0, omega (arith, l, more.1), (h.0, h.1, more.2))

-- ---- tails, pieces and branches

star_decides : (text : List ℕ) (ws : List DigitWord) (k : List ℕ → Bool) (K : List ℕ → Type 0) → Answers k K → (place : List ℕ) → Decides (turns_then text ws (length place) k place) ((n : ℕ) × Leads (Repeated (SpansTurn text ws) n) K place)
star_decides text ws k K a place =
    Decides-like (turns_then text ws (length place) k place) (λ h. (h.0, h.2)) back (turns_decides text ws (length place) k K a place)
  where
    back : ((n : ℕ) × Leads (Repeated (SpansTurn text ws) n) K place) → Turns text ws (length place) K place
    back h = let f = fewer_turns text ws h.0 place h.1.0 h.1.1 in (f.0, f.1, (h.1.0, f.2, h.1.2))

-- so many turns as a sign allows
abbrev SpansRepeat : List ℕ → Repeat → List DigitWord → List ℕ → List ℕ → Type 0
SpansRepeat text r ws from to = (n : ℕ) × Allows r n × Repeated (SpansTurn text ws) n from to

repeat_decides : (text : List ℕ) (r : Repeat) (ws : List DigitWord) (k : List ℕ → Bool) (K : List ℕ → Type 0) → Answers k K → (place : List ℕ) → Decides (repeat_then text r ws k place) (Leads (SpansRepeat text r ws) K place)
unfolding Repeated
repeat_decides text Star ws k K a place =
    Decides-like (turns_then text ws (length place) k place) (λ h. (h.1.0, (h.0, tt, h.1.1), h.1.2)) (λ h. (h.1.0, (h.0, h.1.2, h.2))) (star_decides text ws k K a place)
repeat_decides text Plus ws k K a place =
    Decides-like (turn_then text ws (λ p. turns_then text ws (length p) k p) place)
    (λ h. (h.2.1.0, (suc h.2.0, omega arith, (h.0, h.1, h.2.1.1)), h.2.1.2))
    (λ h. back h.0 h.1.0 h.1.1 h.1.2 h.2)
    (turn_decides text ws (λ p. turns_then text ws (length p) k p) (λ p. (n : ℕ) × Leads (Repeated (SpansTurn text ws) n) K p) (λ p. star_decides text ws k K a p) place)
  where
    back : (to : List ℕ) (n : ℕ) → 1 ≤ n → Repeated (SpansTurn text ws) n place to → K to → Leads (SpansTurn text ws) (λ p. (n : ℕ) × Leads (Repeated (SpansTurn text ws) n) K p) place
    back to zero l h e = absurd (omega (arith, l))
    back to (suc n) l h e = (h.0, h.1, (n, (to, h.2, e)))
repeat_decides text Maybe ws k K a place =
    Decides-like (k place || turn_then text ws k place) forth (λ h. back h.0 h.1.0 h.1.1 h.1.2 h.2)
    (Decides-or (k place) (turn_then text ws k place) (a place) (turn_decides text ws k K a place))
  where
    forth : K place ⊎ Leads (SpansTurn text ws) K place → Leads (SpansRepeat text Maybe ws) K place
    forth (inl h) = (place, (zero, omega arith, refl), h)
    forth (inr h) = (h.0, (suc zero, omega arith, (h.0, h.1, refl)), h.2)

    back : (to : List ℕ) (n : ℕ) → n ≤ 1 → Repeated (SpansTurn text ws) n place to → K to → K place ⊎ Leads (SpansTurn text ws) K place
    back to zero l h e = inl (subst K (sym h) e)
    back to (suc zero) l h e = inr (h.0, h.1, subst K (sym h.2) e)
    back to (suc (suc n)) l h e = absurd (omega (arith, l))

tails_decides : (text : List ℕ) (ts : List Tail) (k : List ℕ → Bool) (K : List ℕ → Type 0) → Answers k K → (place : List ℕ) → Decides (tails_then text ts k place) (Leads (SpansTails text ts) K place)
unfolding tails_then SpansTails
tails_decides text [] k K a place = Decides-like (k place) (λ h. (place, refl, h)) (λ h. subst K (sym h.1) h.2) (a place)
tails_decides text (t ∷ ts) k K a place =
    Decides-like (repeat_then text t.repeat t.words (λ p. tails_then text ts k p) place)
    (λ h. (h.2.0, (h.0, h.1, h.2.1), h.2.2))
    (λ h. (h.1.0, h.1.1, (h.0, h.1.2, h.2)))
    (repeat_decides text t.repeat t.words (λ p. tails_then text ts k p) (Leads (SpansTails text ts) K) (λ p. tails_decides text ts k K a p) place)

anything_decides : (k : List ℕ → Bool) (K : List ℕ → Type 0) → Answers k K → (place : List ℕ) → Decides (anything_then k place) ((front : List ℕ) × (to : List ℕ) × (place ≡ front ++ to) × K to)
unfolding anything_then
anything_decides k K a [] = Decides-like (k []) (λ h. ([], [], refl, h)) (λ h. back h.0 h.1 h.2 h.3) (a [])
  where
    back : (front to : List ℕ) → [] ≡ front ++ to → K to → K []
    back [] to e h = subst K (sym e) h
    back (c ∷ cs) to e h = let f : [] ≡ c ∷ (cs ++ to) = e in absurd cc
anything_decides k K a (c ∷ cs) =
    Decides-like (k (c ∷ cs) || anything_then k cs) forth (λ h. back h.0 h.1 h.2 h.3) (Decides-or (k (c ∷ cs)) (anything_then k cs) (a (c ∷ cs)) (anything_decides k K a cs))
  where
    Anywhere : List ℕ → Type 0
    Anywhere place = (front : List ℕ) × (to : List ℕ) × (place ≡ front ++ to) × K to

    forth : K (c ∷ cs) ⊎ Anywhere cs → Anywhere (c ∷ cs)
    forth (inl h) = ([], c ∷ cs, refl, h)
    forth (inr h) = (c ∷ h.0, h.1, ap (λ (xs : List ℕ). c ∷ xs) h.2, h.3)

    back : (front to : List ℕ) → c ∷ cs ≡ front ++ to → K to → K (c ∷ cs) ⊎ Anywhere cs
    back [] to e h = inl (subst K (sym e) h)
    back (d ∷ ds) to e h = inr (ds, to, (head_is c d cs (ds ++ to) e).1, h)

piece_decides : (text : List ℕ) (p : Piece) (k : List ℕ → Bool) (K : List ℕ → Type 0) → Answers k K → (place : List ℕ) → Decides (piece_then text p k place) (Leads (SpansPiece text p) K place)
piece_decides text Anything k K a place =
    Decides-like (anything_then k place) (λ h. (h.1, (h.0, h.2), h.3)) (λ h. (h.1.0, h.0, h.1.1, h.2)) (anything_decides k K a place)
piece_decides text (Set s) k K a place =
    Decides-like (set_then s.words (λ p. tails_then text s.tails k p) place)
    (λ h. (h.2.0, (h.0, h.1, h.2.1), h.2.2))
    (λ h. (h.1.0, h.1.1, (h.0, h.1.2, h.2)))
    (set_decides s.words (λ p. tails_then text s.tails k p) (Leads (SpansTails text s.tails) K) (λ p. tails_decides text s.tails k K a p) place)

pieces_decides : (text : List ℕ) (ps : List Piece) (k : List ℕ → Bool) (K : List ℕ → Type 0) → Answers k K → (place : List ℕ) → Decides (pieces_then text ps k place) (Leads (SpansPieces text ps) K place)
unfolding pieces_then SpansPieces
pieces_decides text [] k K a place = Decides-like (k place) (λ h. (place, refl, h)) (λ h. subst K (sym h.1) h.2) (a place)
pieces_decides text (p ∷ []) k K a place = piece_decides text p k K a place
pieces_decides text (p ∷ q ∷ ps) k K a place =
    Decides-like (piece_then text p (λ b. under_then text (λ n. pieces_then text (q ∷ ps) k n) b) place)
    (λ h. (h.2.2.0, (h.0, h.2.0, h.1, h.2.1, h.2.2.1), h.2.2.2))
    (λ h. (h.1.0, h.1.2, (h.1.1, h.1.3, (h.0, h.1.4, h.2))))
    (piece_decides text p (λ b. under_then text (λ n. pieces_then text (q ∷ ps) k n) b) (Leads (SpansUnder text) (Leads (SpansPieces text (q ∷ ps)) K))
    (λ b. under_decides text (λ n. pieces_then text (q ∷ ps) k n) (Leads (SpansPieces text (q ∷ ps)) K) (λ n. pieces_decides text (q ∷ ps) k K a n) b) place)

left_decides : (text : List ℕ) (m : Mark) (k : List ℕ → Bool) (K : List ℕ → Type 0) → Answers k K → (place : List ℕ) → Decides (left_then text m k place) (Leads (SpansLeft text m) K place)
left_decides text Anchor k K a place =
    Decides-like (bytes_eq place text && k place) (λ h. (place, (h.0, refl), h.1)) (λ h. (h.1.0, subst K (sym h.1.1) h.2))
    (Decides-and (bytes_eq place text) (k place) (bytes_eq-Decides place text) (a place))
left_decides text Under k K a place = under_decides text k K a place
left_decides text Nothing k K a place = Decides-like (k place) (λ h. (place, refl, h)) (λ h. subst K (sym h.1) h.2) (a place)

right_decides : (text : List ℕ) (m : Mark) (place : List ℕ) → Decides (right_holds text m place) ((to : List ℕ) × SpansRight text m place to)
right_decides text Anchor place = Decides-like (bytes_eq place []) (λ e. (place, (e, refl))) (λ h. h.1.0) (bytes_eq-Decides place [])
right_decides text Under place =
    Decides-like (under_then text (λ p. true) place) (λ h. (h.0, h.1)) (λ h. (h.0, h.1, tt)) (under_decides text (λ p. true) (λ p. Unit {0}) (λ p. (λ e. tt, λ u. refl)) place)
right_decides text Nothing place = (λ e. (place, refl), λ h. refl)

branch_decides : (text : List ℕ) (b : IosBranch) (place : List ℕ) → Decides (branch_from text b place) ((to : List ℕ) × SpansBranch text b place to)
branch_decides text EmptyPath place =
    Decides-like (bytes_eq place text && bytes_eq place []) (λ h. (place, (h.0, h.1, refl))) (λ h. (h.1.0, h.1.1))
    (Decides-and (bytes_eq place text) (bytes_eq place []) (bytes_eq-Decides place text) (bytes_eq-Decides place []))
branch_decides text (Pieces b) place =
    Decides-like (left_then text b.left (λ p. pieces_then text b.pieces (λ q. right_holds text b.right q) p) place)
    (λ h. (h.2.2.0, (h.0, h.2.0, h.1, h.2.1, h.2.2.1)))
    (λ h. (h.1.0, h.1.2, (h.1.1, h.1.3, (h.0, h.1.4))))
    (left_decides text b.left (λ p. pieces_then text b.pieces (λ q. right_holds text b.right q) p) (Leads (SpansPieces text b.pieces) (λ q. (to : List ℕ) × SpansRight text b.right q to))
    (λ p. pieces_decides text b.pieces (λ q. right_holds text b.right q) (λ q. (to : List ℕ) × SpansRight text b.right q to) (λ q. right_decides text b.right q) p) place)

found_decides : (text : List ℕ) (b : IosBranch) → Decides (anything_then (λ place. branch_from text b place) text) (FoundIn text b)
found_decides text b =
    Decides-like (anything_then (λ place. branch_from text b place) text)
    (λ h. record { before = h.0; from = h.1; to = h.3.0; place = h.2; spans = h.3.1 })
    (λ f. (f.before, f.from, f.place, (f.to, f.spans)))
    (anything_decides (λ place. branch_from text b place) (λ place. (to : List ℕ) × SpansBranch text b place to) (λ place. branch_decides text b place) text)

-- the search answers by the relation
pub finds_in_decides : (bs : List IosBranch) (path : List ℕ) → Decides (finds_in bs path) (Found bs path)
unfolding finds_in found_in
finds_in_decides bs path =
    let text = path_text path in
    any_decides (λ (b : IosBranch). anything_then (λ place. branch_from text b place) text) (λ (b : IosBranch). FoundIn text b) (found_decides text) bs
