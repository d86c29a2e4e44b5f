-- The text of a pattern spells the pattern, and may stand in quotes.
use Rattle.std.proofs.Common.{◌≡◌, refl, sym, ap, subst, ◌∙◌, ℕ, suc, ◌+◌, ◌≤◌, ◌==◌, Bool, true, false, cond, ◌&&◌, ◌||◌, nat_le, List, [], ◌∷◌, ◌++◌, length, map, flat_map, append_assoc, arith, inl, inr}
use Rattle.std.specs.List.{concat, filter, list_any, list_all, AllByRecursion}
use Rattle.std.proofs.lemmas.Bool.{agree_below, agree_below_at, and_parts, and_from, leb-true, eqb-true, le-leb, ne_eqb}
use Rattle.std.proofs.lemmas.List.Concat.{concat_is}
use Rattle.std.proofs.lemmas.List.Folds.{flat_map-map, list_all-append}
use Rattle.route_types.specs.RouteText.{Each}
use Rattle.text_words.specs.RplText.{is_quotable}
use Rattle.aspath_text.specs.IosGrammar.{joined_by, repeat_sign, left_text, right_text, DigitRun, SpellsRun, SpellsClass, SpellsDigitSet, SpellsWord, SpellsSet, SpellsTail, SpellsPiece, SpellsBranch, SpellsPattern}
use Rattle.aspath_text.specs.IosText.{first_in, least_digit, greatest_digit, run_text}
use Rattle.path_patterns.specs.PathItems.{has_digit}
use Rattle.path_patterns.specs.RangeWords.{run_of, IsRun}
use Rattle.path_patterns.specs.Shape.{IsDigitSet, IsDigitWord, AreDigitWords, IsTail, IsPiece, IsBranch, IsShaped}
use Rattle.path_patterns.specs.declared.pattern.IosBranch.{IosBranch}
use Rattle.path_patterns.specs.declared.pattern.IosBranch.TheVariants.{EmptyPath, Pieces}
use Rattle.path_patterns.specs.declared.pattern.Mark.{Mark}
use Rattle.path_patterns.specs.declared.pattern.Mark.TheVariants.{Anchor, Under, Nothing}
use Rattle.path_patterns.specs.declared.pattern.Piece.{Piece}
use Rattle.path_patterns.specs.declared.pattern.Piece.TheVariants.{Anything, Set}
use Rattle.path_patterns.specs.declared.pattern.DigitWord.{DigitWord}
use Rattle.path_patterns.specs.declared.pattern.DigitWord.TheVariants.{Any, Digits}
use Rattle.path_patterns.specs.declared.pattern.DigitSet.{DigitSet}
use Rattle.path_patterns.specs.declared.pattern.Repeat.{Repeat}
use Rattle.path_patterns.specs.declared.pattern.Repeat.TheVariants.{Star, Plus, Maybe}
use Rattle.path_patterns.specs.declared.pattern.Tail.{Tail}
use Rattle.aspath_text.proofs.JoinedLaws.{joined_behind}
use Rattle.path_patterns.proofs.Lists.{each_spelled}
use Rattle.aspath_text.proofs.RunText.{digit_set_spelled}
use Rattle.rpl_text.specs.Patterns.{all_digits, digits_of, is_run, between, set_text, word_text, words_text, tail_text, piece_text, branch_text, pattern_text}

-- ---- sets of digits

-- the set of this number
abbrev at : ℕ → DigitSet
at k = record { 0 = k }

-- a set that is a run is one from its least to its greatest digit
abbrev is_ended : DigitSet → Bool
is_ended s = nat_le (least_digit s) (greatest_digit s) && (nat_le (greatest_digit s) 9 && (s.0 == (run_of (least_digit s) (greatest_digit s)).0))

run_test : agree_below (λ k. cond (nat_le 1 k && is_run (at k)) (is_ended (at k)) true) (λ k. true) 1024 ≡ true
unfolding is_run first_in
run_test = refl

some_test : agree_below (λ k. cond (nat_le 1 k) (nat_le 1 (length (digits_of (at k)))) true) (λ k. true) 1024 ≡ true
some_test = refl

run_of_digits : (s : DigitSet) → IsDigitSet s → is_run s ≡ true → IsRun s
run_of_digits s h run =
    let f : ℕ → Bool = λ k. cond (nat_le 1 k && is_run (at k)) (is_ended (at k)) true in
    let both = and_from (nat_le 1 (s.0)) (is_run s) (le-leb 1 (s.0) h.0) run in
    let e : is_ended s ≡ true = ap (λ (b : Bool). cond b (is_ended s) true) (sym both) ∙ agree_below_at f (λ k. true) 1024 (s.0) run_test h.1 in
    let q = and_parts (nat_le (least_digit s) (greatest_digit s)) (nat_le (greatest_digit s) 9 && (s.0 == (run_of (least_digit s) (greatest_digit s)).0)) e in
    let r = and_parts (nat_le (greatest_digit s) 9) (s.0 == (run_of (least_digit s) (greatest_digit s)).0) q.1 in
    record {
      first = least_digit s;
      last = greatest_digit s;
      rises = leb-true (least_digit s) (greatest_digit s) q.0;
      digit = leb-true (greatest_digit s) 9 r.0;
      is = ap (λ (k : ℕ). at k) (eqb-true (s.0) ((run_of (least_digit s) (greatest_digit s)).0) r.1);
    }

some_digits : (s : DigitSet) → IsDigitSet s → 1 ≤ length (digits_of s)
some_digits s h =
    let f : ℕ → Bool = λ k. cond (nat_le 1 k) (nat_le 1 (length (digits_of (at k)))) true in
    leb-true 1 (length (digits_of s)) (ap (λ (b : Bool). cond b (nat_le 1 (length (digits_of s))) true) (sym (le-leb 1 (s.0) h.0)) ∙ agree_below_at f (λ k. true) 1024 (s.0) some_test h.1)

-- a digit as a run
abbrev one : ℕ → DigitRun
one d = record { least = d; most = d }

-- the digit is in the run
abbrev lies : ℕ → DigitRun → Bool
lies x r = nat_le r.least x && nat_le x r.most

-- the digits that pass are those that lie in their runs
kept_lies : (P : ℕ → Bool) (d x : ℕ) (e rest : Bool) → lies x (one d) ≡ e → P d ≡ true → (e || (P x && rest)) ≡ (P x && (e || rest))
kept_lies P d x true rest e f =
    let q = and_parts (nat_le d x) (nat_le x d) e in
    let low = leb-true d x q.0 in
    let high = leb-true x d q.1 in
    let same : d ≡ x = omega arith in
    let k : P x ≡ true = subst (λ (y : ℕ). P y ≡ true) same f in
    rw k refl
kept_lies P d x false rest e f = refl

left_lies : (P : ℕ → Bool) (d x : ℕ) (e rest : Bool) → lies x (one d) ≡ e → P d ≡ false → (P x && rest) ≡ (P x && (e || rest))
left_lies P d x true rest e f =
    let q = and_parts (nat_le d x) (nat_le x d) e in
    let low = leb-true d x q.0 in
    let high = leb-true x d q.1 in
    let same : d ≡ x = omega arith in
    let k : P x ≡ false = subst (λ (y : ℕ). P y ≡ false) same f in
    rw k refl
left_lies P d x false rest e f = refl

step_lies : (P : ℕ → Bool) (d x : ℕ) (ds : List ℕ) (t : Bool) → P d ≡ t → list_any (lies x) (map one (filter P ds)) ≡ (P x && list_any (λ y. lies x (one y)) ds)
    → list_any (lies x) (map one (cond t (d ∷ filter P ds) (filter P ds))) ≡ (P x && (lies x (one d) || list_any (λ y. lies x (one y)) ds))
step_lies P d x ds true e h = ap (λ (b : Bool). lies x (one d) || b) h ∙ kept_lies P d x (lies x (one d)) (list_any (λ y. lies x (one y)) ds) refl e
step_lies P d x ds false e h = h ∙ left_lies P d x (lies x (one d)) (list_any (λ y. lies x (one y)) ds) refl e

and_false : (b : Bool) → false ≡ (b && false)
and_false true = refl
and_false false = refl

and_true : (b : Bool) → (b && true) ≡ b
and_true true = refl
and_true false = refl

filter_lies : (P : ℕ → Bool) (x : ℕ) (ds : List ℕ) → list_any (lies x) (map one (filter P ds)) ≡ (P x && list_any (λ y. lies x (one y)) ds)
filter_lies P x [] = and_false (P x)
filter_lies P x (d ∷ ds) = step_lies P d x ds (P d) refl (filter_lies P x ds)

every_digit : (x : ℕ) → x ≤ 9 → list_any (λ y. lies x (one y)) all_digits ≡ true
every_digit x h = agree_below_at (λ z. list_any (λ y. lies z (one y)) all_digits) (λ z. true) 10 x refl (omega arith)

class_is : (s : DigitSet) (x : ℕ) → x ≤ 9 → has_digit s x ≡ list_any (lies x) (map one (digits_of s))
class_is s x h = sym (filter_lies (has_digit s) x all_digits ∙ ap (λ (b : Bool). has_digit s x && b) (every_digit x h) ∙ and_true (has_digit s x))

filter_below : (P : ℕ → Bool) (ds : List ℕ) → AllByRecursion (λ d. d ≤ 9) ds → AllByRecursion (λ d. d ≤ 9) (filter P ds)
filter_below P [] h = tt
filter_below P (d ∷ ds) h = elim (P d) as (λ b. AllByRecursion (λ x. x ≤ 9) (cond b (d ∷ filter P ds) (filter P ds))) [
  | true ↦ (h.0, filter_below P ds h.1)
  | false ↦ filter_below P ds h.1
]

-- the text of a digit
abbrev digit_text : ℕ → List ℕ
digit_text d = (48 + d) ∷ []

each_run : (ds : List ℕ) → AllByRecursion (λ d. d ≤ 9) ds → Each SpellsRun (map digit_text ds) (map one ds)
each_run [] h = tt
each_run (d ∷ ds) h = (record { rises = omega arith; digit = h.0; spelled = inl (refl, refl) }, each_run ds h.1)

digits_joined : (ds : List ℕ) → map (λ d. 48 + d) ds ≡ concat (map digit_text ds)
digits_joined [] = refl
digits_joined (d ∷ ds) = ap (λ (t : List ℕ). (48 + d) ∷ t) (digits_joined ds)

length_map : {A B : Type 0} (f : A → B) (xs : List A) → length (map f xs) ≡ length xs
length_map f [] = refl
length_map f (x ∷ xs) = ap (λ (n : ℕ). suc n) (length_map f xs)

class_spelled : (s : DigitSet) → IsDigitSet s → SpellsClass (91 ∷ (map (λ d. 48 + d) (digits_of s) ++ (93 ∷ []))) s
class_spelled s h =
    let below : AllByRecursion (λ d. d ≤ 9) all_digits = (omega arith, (omega arith, (omega arith, (omega arith, (omega arith, (omega arith, (omega arith, (omega arith, (omega arith, (omega arith, tt)))))))))) in
    record {
      runs = map one (digits_of s);
      parts = map digit_text (digits_of s);
      spelled = ap (λ (t : List ℕ). 91 ∷ (t ++ (93 ∷ []))) (digits_joined (digits_of s));
      each = each_run (digits_of s) (filter_below (has_digit s) all_digits below);
      some = omega (arith, some_digits s h, length_map one (digits_of s));
      is = (h.1, class_is s);
    }

set_by : (s : DigitSet) (t : Bool) → is_run s ≡ t → IsDigitSet s → SpellsDigitSet (cond t (run_text (least_digit s) (greatest_digit s)) (91 ∷ (map (λ d. 48 + d) (digits_of s) ++ (93 ∷ [])))) s
set_by s true e h = digit_set_spelled s (run_of_digits s h e)
set_by s false e h = inr (class_spelled s h)

set_spelled : (s : DigitSet) → IsDigitSet s → SpellsDigitSet (set_text s) s
set_spelled s h = set_by s (is_run s) refl h

-- ---- words, pieces and branches

between_is : {A : Type 0} (b : ℕ) (f : A → List ℕ) (xs : List A) → between b f xs ≡ joined_by b (map f xs)
unfolding joined_by
between_is b f [] = refl
between_is b f (x ∷ xs) = sym (joined_behind b f x xs)

-- the texts of some things, one after the other
flat_concat : {A : Type 0} (f : A → List ℕ) (xs : List A) → flat_map f xs ≡ concat (map f xs)
flat_concat f xs = sym (concat_is (map f xs) ∙ flat_map-map (λ t. t) f xs)

word_spelled : (w : DigitWord) → IsDigitWord w → SpellsWord (word_text w) w
word_spelled Any h = refl
word_spelled (Digits ss) h = (map set_text ss, flat_concat set_text ss, each_spelled IsDigitSet SpellsDigitSet set_text set_spelled ss h.2, h.0, h.1)

group_is : (w v : DigitWord) (ws : List DigitWord) → words_text (w ∷ v ∷ ws) ≡ 40 ∷ (joined_by 124 (map word_text (w ∷ v ∷ ws)) ++ (41 ∷ []))
group_is w v ws =
    ap (λ (t : List ℕ). 40 ∷ t) (sym (append_assoc (word_text w) (flat_map (λ (x : DigitWord). 124 ∷ word_text x) (v ∷ ws)) (41 ∷ [])))
    ∙ ap (λ (t : List ℕ). 40 ∷ (t ++ (41 ∷ []))) (sym (joined_behind 124 word_text w (v ∷ ws)))

words_spelled : (ws : List DigitWord) → AreDigitWords ws → SpellsSet (words_text ws) ws
words_spelled [] h = absurd (omega (arith, h.0))
words_spelled (w ∷ []) h = inl (w, refl, word_spelled w h.1.0)
words_spelled (w ∷ v ∷ ws) h = inr (map word_text (w ∷ v ∷ ws), group_is w v ws, each_spelled IsDigitWord SpellsWord word_text word_spelled (w ∷ v ∷ ws) h.1, h.0)

tail_spelled : (t : Tail) → IsTail t → SpellsTail (tail_text t) t
tail_spelled t h = (words_text t.words, refl, words_spelled t.words h)

piece_spelled : (p : Piece) → IsPiece p → SpellsPiece (piece_text p) p
piece_spelled Anything h = refl
piece_spelled (Set s) h = (
  words_text s.words,
  map tail_text s.tails,
  ap (λ (x : List ℕ). words_text s.words ++ x) (flat_concat tail_text s.tails),
  words_spelled s.words h.0,
  each_spelled IsTail SpellsTail tail_text tail_spelled s.tails h.1,
)

branch_spelled : (b : IosBranch) → IsBranch b → SpellsBranch (branch_text b) b
branch_spelled EmptyPath h = refl
branch_spelled (Pieces b) h = (map piece_text b.pieces, ap (λ (t : List ℕ). left_text b.left ++ (t ++ right_text b.right)) (between_is 95 piece_text b.pieces), each_spelled IsPiece SpellsPiece piece_text piece_spelled b.pieces h.0, h)

-- the text of a pattern spells it
pub pattern_spelled : (bs : List IosBranch) → IsShaped bs → SpellsPattern (pattern_text bs) bs
pattern_spelled bs h = record { parts = map branch_text bs; spelled = between_is 124 branch_text bs; each = each_spelled IsBranch SpellsBranch branch_text branch_spelled bs h.1; some = h.0 }

-- ---- its bytes

-- each byte may stand in quotes
abbrev Quotable : List ℕ → Type 0
Quotable text = list_all is_quotable text ≡ true

both_quotable : (xs ys : List ℕ) → Quotable xs → Quotable ys → Quotable (xs ++ ys)
both_quotable xs ys h k = list_all-append is_quotable xs ys ∙ and_from (list_all is_quotable xs) (list_all is_quotable ys) h k

flat_quotable : {A : Type 0} (f : A → List ℕ) → ((x : A) → Quotable (f x)) → (xs : List A) → Quotable (flat_map f xs)
flat_quotable f h [] = refl
flat_quotable f h (x ∷ xs) = both_quotable (f x) (flat_map f xs) (h x) (flat_quotable f h xs)

between_quotable : {A : Type 0} (b : ℕ) (f : A → List ℕ) → is_quotable b ≡ true → ((x : A) → Quotable (f x)) → (xs : List A) → Quotable (between b f xs)
between_quotable b f fits h [] = refl
between_quotable b f fits h (x ∷ xs) = both_quotable (f x) (flat_map (λ y. b ∷ f y) xs) (h x) (flat_quotable (λ y. b ∷ f y) (λ y. and_from (is_quotable b) (list_all is_quotable (f y)) fits (h y)) xs)

digit_quotable : (d : ℕ) → is_quotable (48 + d) ≡ true
digit_quotable d =
    let quote : ((48 + d) == 39) ≡ false = ne_eqb (48 + d) 39 (λ e. omega arith) in
    let line : ((48 + d) == 10) ≡ false = ne_eqb (48 + d) 10 (λ e. omega arith) in
    rw (quote, line) refl

digits_quotable : (ds : List ℕ) → Quotable (map (λ d. 48 + d) ds)
digits_quotable [] = refl
digits_quotable (d ∷ ds) = and_from (is_quotable (48 + d)) (list_all is_quotable (map (λ x. 48 + x) ds)) (digit_quotable d) (digits_quotable ds)

run_quotable : (t : Bool) (d e : ℕ) → Quotable (cond t ((48 + d) ∷ []) (91 ∷ (48 + d) ∷ 45 ∷ (48 + e) ∷ 93 ∷ []))
run_quotable true d e = rw (digit_quotable d) refl
run_quotable false d e = rw (digit_quotable d, digit_quotable e) refl

set_quotable : (t : Bool) (d e : ℕ) (ds : List ℕ) → Quotable (cond t (run_text d e) (91 ∷ (map (λ x. 48 + x) ds ++ (93 ∷ []))))
set_quotable true d e ds = run_quotable (d == e) d e
set_quotable false d e ds = both_quotable (map (λ x. 48 + x) ds) (93 ∷ []) (digits_quotable ds) refl

word_quotable : (w : DigitWord) → Quotable (word_text w)
word_quotable Any = refl
word_quotable (Digits ss) = flat_quotable set_text (λ s. set_quotable (is_run s) (least_digit s) (greatest_digit s) (digits_of s)) ss

words_quotable : (ws : List DigitWord) → Quotable (words_text ws)
words_quotable [] = refl
words_quotable (w ∷ []) = word_quotable w
words_quotable (w ∷ v ∷ ws) =
    let others = flat_map (λ (x : DigitWord). 124 ∷ word_text x) (v ∷ ws) in
    both_quotable (word_text w) (others ++ (41 ∷ [])) (word_quotable w) (both_quotable others (41 ∷ []) (flat_quotable (λ (x : DigitWord). 124 ∷ word_text x) word_quotable (v ∷ ws)) refl)

sign_quotable : (r : Repeat) → Quotable (41 ∷ repeat_sign r ∷ [])
sign_quotable Star = refl
sign_quotable Plus = refl
sign_quotable Maybe = refl

tail_quotable : (t : Tail) → Quotable (tail_text t)
tail_quotable t = both_quotable (words_text t.words) (41 ∷ repeat_sign t.repeat ∷ []) (words_quotable t.words) (sign_quotable t.repeat)

piece_quotable : (p : Piece) → Quotable (piece_text p)
piece_quotable Anything = refl
piece_quotable (Set s) = both_quotable (words_text s.words) (flat_map tail_text s.tails) (words_quotable s.words) (flat_quotable tail_text tail_quotable s.tails)

left_quotable : (m : Mark) → Quotable (left_text m)
left_quotable Anchor = refl
left_quotable Under = refl
left_quotable Nothing = refl

right_quotable : (m : Mark) → Quotable (right_text m)
right_quotable Anchor = refl
right_quotable Under = refl
right_quotable Nothing = refl

branch_quotable : (b : IosBranch) → Quotable (branch_text b)
branch_quotable EmptyPath = refl
branch_quotable (Pieces b) =
    let pieces = between 95 piece_text b.pieces in
    both_quotable (left_text b.left) (pieces ++ right_text b.right) (left_quotable b.left) (both_quotable pieces (right_text b.right) (between_quotable 95 piece_text refl piece_quotable b.pieces) (right_quotable b.right))

-- the text of a pattern may stand in quotes
pub pattern_quotable : (bs : List IosBranch) → list_all is_quotable (pattern_text bs) ≡ true
pattern_quotable bs = between_quotable 124 branch_text refl branch_quotable bs
