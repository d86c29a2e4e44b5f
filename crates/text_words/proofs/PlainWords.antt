-- Plain words, one space between each two, are words of any cut; and which words are plain in an RPL text.
use Rattle.std.proofs.Common.{◌≡◌, refl, sym, ap, subst, ◌∙◌, ℕ, ◌<◌, Bool, true, false, ◌&&◌, ◌||◌, List, [], ◌∷◌, ◌++◌, length, append-nil, arith}
use Rattle.std.specs.Prelude.{bytes_eq, ◌==◌}
use Rattle.std.specs.List.{list_any, list_all}
use Rattle.std.proofs.lemmas.Bool.{and_parts, and_from, or_from, or_parts, or_right, not_from_false, false_from_ne_true}
use Rattle.std.proofs.lemmas.Slice.Eq.{bytes_eq-Decides}
use Rattle.text_words.specs.Pieces.{Piece, pieces_behind, line_pieces}
use Rattle.text_words.specs.Signs.{Signs, is_mark_text, ends_word, are_words}
use Rattle.text_words.specs.RplText.{breaks, is_letter, is_plain}
use Rattle.text_words.proofs.RplLexes.{apart}

-- the pieces are words, and a plain word may stand before them
abbrev pub IsTail : Signs → List Piece → Type 0
IsTail s xs = (are_words s xs ≡ true) × (ends_word s xs ≡ true)

-- plain words behind a word, before a tail
pub plain_behind : (s : Signs) (ws : List (List ℕ)) (ys : List Piece) → list_all s.is_plain ws ≡ true → IsTail s ys → IsTail s (pieces_behind ws ++ ys)
unfolding are_words
plain_behind s [] ys h tail = tail
plain_behind s (w ∷ ws) ys h tail =
    let q = and_parts (s.is_plain w) (list_all s.is_plain ws) h in
    let more = pieces_behind ws ++ ys in
    let m = plain_behind s ws ys q.1 tail in
    let mark = is_mark_text s w in
    (and_from (mark || s.is_plain w) ((mark || ends_word s more) && are_words s more) (or_right mark (s.is_plain w) q.0) (and_from (mark || ends_word s more) (are_words s more) (or_right mark (ends_word s more) m.1) m.0), refl)

-- a line of plain words, before a tail
pub plain_line : (s : Signs) (gap : ℕ) (w : List ℕ) (ws : List (List ℕ)) (ys : List Piece) → list_all s.is_plain (w ∷ ws) ≡ true → IsTail s ys → are_words s (line_pieces gap (w ∷ ws) ++ ys) ≡ true
unfolding are_words
plain_line s gap w ws ys h tail = (plain_behind s (w ∷ ws) ys h tail).0

-- a line of plain words
pub plain_alone : (s : Signs) (gap : ℕ) (w : List ℕ) (ws : List (List ℕ)) → list_all s.is_plain (w ∷ ws) ≡ true → are_words s (line_pieces gap (w ∷ ws)) ≡ true
unfolding are_words
plain_alone s gap w ws h = ap (λ (xs : List Piece). are_words s xs) (sym (append-nil (line_pieces gap (w ∷ ws)))) ∙ plain_line s gap w ws [] h (refl, refl)

-- ---- which words are plain

-- a byte of a sort is none of other bytes
pub none_of : (P : ℕ → Bool) (bs : List ℕ) (c : ℕ) → list_any P bs ≡ false → P c ≡ true → list_any (λ b. c == b) bs ≡ false
none_of P [] c without with = refl
none_of P (b ∷ bs) c without with =
    let q = or_parts (P b) (list_any P bs) without in
    or_from (c == b) (list_any (λ x. c == x) bs) (apart P b c true q.0 with) (none_of P bs c q.1 with)

-- where all bytes are of a sort, none is one of other bytes
pub no_byte_of : (P : ℕ → Bool) (bs w : List ℕ) → list_any P bs ≡ false → list_all P w ≡ true → list_any (λ c. list_any (λ b. c == b) bs) w ≡ false
no_byte_of P bs [] without all = refl
no_byte_of P bs (c ∷ cs) without all =
    let q = and_parts (P c) (list_all P cs) all in
    or_from (list_any (λ b. c == b) bs) (list_any (λ d. list_any (λ b. d == b) bs) cs) (none_of P bs c without q.0) (no_byte_of P bs cs without q.1)

letters : (w : List ℕ) → list_any (λ c. list_any (λ b. c == b) breaks) w ≡ false → list_all is_letter w ≡ true
letters [] h = refl
letters (c ∷ cs) h =
    let q = or_parts (list_any (λ b. c == b) breaks) (list_any (λ d. list_any (λ b. d == b) breaks) cs) h in
    and_from (is_letter c) (list_all is_letter cs) (not_from_false (list_any (λ b. c == b) breaks) q.0) (letters cs q.1)

-- a word in which no byte breaks words is plain
pub plain_word : (w : List ℕ) → 0 < length w → list_any (λ c. list_any (λ b. c == b) breaks) w ≡ false → is_plain w ≡ true
plain_word [] some h = absurd (omega arith)
plain_word (c ∷ cs) some h = letters (c ∷ cs) h

-- ---- a word with a byte of a sort is no word without one: so values are no keywords

pub no_key : (P : ℕ → Bool) (key word : List ℕ) → list_any P key ≡ false → list_any P word ≡ true → bytes_eq key word ≡ false
no_key P key word without has = false_from_ne_true (bytes_eq key word) (λ e. let k : list_any P word ≡ false = subst (λ (w : List ℕ). list_any P w ≡ false) ((bytes_eq-Decides key word).0 e) without in absurd cc)

pub no_keys : (P : ℕ → Bool) (keys : List (List ℕ)) (word : List ℕ) → list_any (λ key. list_any P key) keys ≡ false → list_any P word ≡ true → list_any (λ key. bytes_eq key word) keys ≡ false
no_keys P [] word without has = refl
no_keys P (key ∷ keys) word without has =
    let q = or_parts (list_any P key) (list_any (λ k. list_any P k) keys) without in
    or_from (bytes_eq key word) (list_any (λ k. bytes_eq k word) keys) (no_key P key word q.0 has) (no_keys P keys word q.1 has)
