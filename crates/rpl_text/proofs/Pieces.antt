-- Words that may stand in a text one behind another, none of which is a keyword.
use Rattle.std.proofs.Common.{◌≡◌, refl, sym, ap, ◌∙◌, ℕ, ◌+◌, Bool, true, false, ◌&&◌, ◌||◌, not, List, [], ◌∷◌, ◌++◌, map}
use Rattle.std.specs.Prelude.{codes, bytes_eq}
use Rattle.std.specs.List.{list_any, list_all}
use Rattle.std.proofs.lemmas.Bool.{and_parts, and_from, or_parts, or_right, or_from, not_from_false}
use Rattle.std.proofs.lemmas.List.Folds.{list_all-append}
use Rattle.text_words.specs.Pieces.{Piece, placed, pieces_text, word_size, word_then, spaces}
use Rattle.text_words.specs.Signs.{is_closed, ends_word, are_words, is_mark_text, is_word as is_word_of}
use Rattle.text_words.specs.RplCut.{is_word, is_one_of, starts}
use Rattle.text_words.specs.RplText.{rpl_signs, is_plain, as_word, bare}
use Rattle.text_words.proofs.Lexes.{piece_onto}
use Rattle.text_words.proofs.PlainWords.{no_keys}
use Rattle.text_words.proofs.RplLexes.{not_true}
use Rattle.rpl_words.specs.Tokens.{Token, tokens, is_key}

-- ---- what a word may be

-- the words at which a statement of a policy starts or ends
abbrev pub keys : List (List ℕ)
keys = codes "then" ∷ codes "end-policy" ∷ starts

-- the words that end an element
abbrev pub enders : List (List ℕ)
enders = codes "end-set" ∷ codes "," ∷ codes ")" ∷ []

-- a word of a statement: it may stand in a text, and no statement starts or ends with it
abbrev pub is_value : Piece → Bool
is_value x = is_word_of rpl_signs x.text x.quoted && not (is_one_of keys (as_word x))

-- a word that ends no element
abbrev pub is_free : Piece → Bool
is_free x = not (is_one_of enders (as_word x))

-- a word that ends no item of a list
abbrev pub is_listed : Piece → Bool
is_listed x = not (is_one_of (codes "," ∷ codes ")" ∷ []) (as_word x))

-- words of a statement, none of which runs into another
pub record AreValues (xs : List Piece) : Type 0 where
  pub words : are_words rpl_signs xs ≡ true
  pub values : list_all is_value xs ≡ true

-- words of an element
pub record AreParts (xs : List Piece) : Type 0 where
  pub values : AreValues xs
  pub free : list_all is_free xs ≡ true

-- a word of an element
pub record IsPart (x : Piece) : Type 0 where
  pub value : is_value x ≡ true
  pub free : is_free x ≡ true

-- a text that is a word of an element, wherever it stands
pub record IsPartText (text : List ℕ) : Type 0 where
  pub plain : is_plain text ≡ true
  pub no_key : list_any (λ key. bytes_eq key text) keys ≡ false
  pub no_ender : list_any (λ key. bytes_eq key text) enders ≡ false

pub plain_value : (gap : ℕ) (text : List ℕ) → is_plain text ≡ true → list_any (λ key. bytes_eq key text) keys ≡ false → is_value (record { gap = gap; text = text; quoted = false }) ≡ true
plain_value gap text plain none =
    and_from (is_mark_text rpl_signs text || is_plain text) (not (list_any (λ key. bytes_eq key text) keys)) (or_right (is_mark_text rpl_signs text) (is_plain text) plain)
    (not_from_false (list_any (λ key. bytes_eq key text) keys) none)

pub part_fits : (gap : ℕ) (text : List ℕ) → IsPartText text → IsPart (record { gap = gap; text = text; quoted = false })
part_fits gap text h = record { value = plain_value gap text h.plain h.no_key; free = not_from_false (list_any (λ key. bytes_eq key text) enders) h.no_ender }

-- a plain text with a byte of a sort that no keyword has
pub part_by : (P : ℕ → Bool) (text : List ℕ) → list_any (λ key. list_any P key) keys ≡ false → list_any (λ key. list_any P key) enders ≡ false → is_plain text ≡ true → list_any P text ≡ true → IsPartText text
part_by P text a b plain has = record { plain = plain; no_key = no_keys P keys text a has; no_ender = no_keys P enders text b has }

-- ---- words one behind another

pub no_values : AreValues []
unfolding are_words
no_values = record { words = refl; values = refl }

pub no_parts : AreParts []
no_parts = record { values = no_values; free = refl }

pub value_cons : (x : Piece) (xs : List Piece) → is_value x ≡ true → ends_word rpl_signs xs ≡ true → AreValues xs → AreValues (x ∷ xs)
unfolding are_words
value_cons x xs v ends h =
    let closed = is_closed rpl_signs x.text x.quoted in
    let q = and_parts (is_word_of rpl_signs x.text x.quoted) (not (is_one_of keys (as_word x))) v in
    record {
      words = and_from (is_word_of rpl_signs x.text x.quoted) ((closed || ends_word rpl_signs xs) && are_words rpl_signs xs) q.0
          (and_from (closed || ends_word rpl_signs xs) (are_words rpl_signs xs) (or_right closed (ends_word rpl_signs xs) ends) h.words);
      values = and_from (is_value x) (list_all is_value xs) v h.values;
    }

-- behind a parenthesis anything may stand
pub opened : (gap : ℕ) (xs : List Piece) → AreValues xs → AreValues (record { gap = gap; text = codes "("; quoted = false } ∷ xs)
unfolding are_words
opened gap xs h = record { words = h.words; values = h.values }

-- and so it is behind a comma
pub separated : (xs : List Piece) → AreValues xs → AreValues (bare (codes ",") ∷ xs)
unfolding are_words
separated xs h = record { words = h.words; values = h.values }

pub part_cons : (x : Piece) (xs : List Piece) → IsPart x → ends_word rpl_signs xs ≡ true → AreParts xs → AreParts (x ∷ xs)
part_cons x xs v ends h = record { values = value_cons x xs v.value ends h.values; free = and_from (is_free x) (list_all is_free xs) v.free h.free }

pub words_append : (xs ys : List Piece) → are_words rpl_signs xs ≡ true → are_words rpl_signs ys ≡ true → ends_word rpl_signs ys ≡ true → are_words rpl_signs (xs ++ ys) ≡ true
unfolding are_words
words_append [] ys h k ends = k
words_append (x ∷ []) ys h k ends =
    let closed = is_closed rpl_signs x.text x.quoted in
    let q = and_parts (is_word_of rpl_signs x.text x.quoted) ((closed || true) && true) h in
    and_from (is_word_of rpl_signs x.text x.quoted) ((closed || ends_word rpl_signs ys) && are_words rpl_signs ys) q.0
    (and_from (closed || ends_word rpl_signs ys) (are_words rpl_signs ys) (or_right closed (ends_word rpl_signs ys) ends) k)
words_append (x ∷ y ∷ xs) ys h k ends =
    let closed = is_closed rpl_signs x.text x.quoted in
    let behind = closed || ends_word rpl_signs (y ∷ xs) in
    let q = and_parts (is_word_of rpl_signs x.text x.quoted) (behind && are_words rpl_signs (y ∷ xs)) h in
    let r = and_parts behind (are_words rpl_signs (y ∷ xs)) q.1 in
    and_from (is_word_of rpl_signs x.text x.quoted) (behind && are_words rpl_signs ((y ∷ xs) ++ ys)) q.0
    (and_from behind (are_words rpl_signs ((y ∷ xs) ++ ys)) r.0 (words_append (y ∷ xs) ys r.1 k ends))

pub values_append : (xs ys : List Piece) → AreValues xs → AreValues ys → ends_word rpl_signs ys ≡ true → AreValues (xs ++ ys)
values_append xs ys h k ends = record {
  words = words_append xs ys h.words k.words ends;
  values = list_all-append is_value xs ys ∙ and_from (list_all is_value xs) (list_all is_value ys) h.values k.values;
}

-- ---- the words apart from where they stand

-- the word of a piece
abbrev pub token_of : Piece → Token
token_of x = record { text = x.text; quoted = x.quoted }

-- the words of pieces
abbrev pub tokens_of : List Piece → List Token
tokens_of xs = map token_of xs

pub tokens_placed : (xs : List Piece) (p : ℕ) → tokens (placed p xs) ≡ tokens_of xs
unfolding placed
tokens_placed [] p = refl
tokens_placed (x ∷ xs) p = ap (λ (ts : List Token). token_of x ∷ ts) (tokens_placed xs (p + x.gap + word_size x.text x.quoted))

-- none of the words is this one
pub none_key : (P : Piece → Bool) (key : List ℕ) (xs : List Piece) → ((x : Piece) → P x ≡ true → is_key key (token_of x) ≡ false) → list_all P xs ≡ true → list_any (is_key key) (tokens_of xs) ≡ false
none_key P key [] apart h = refl
none_key P key (x ∷ xs) apart h =
    let q = and_parts (P x) (list_all P xs) h in
    or_from (is_key key (token_of x)) (list_any (is_key key) (tokens_of xs)) (apart x q.0) (none_key P key xs apart q.1)

-- a word that ends no item is neither a comma nor a parenthesis
pub no_comma : (x : Piece) → is_listed x ≡ true → is_key (codes ",") (token_of x) ≡ false
no_comma x h =
    let w = as_word x in
    (or_parts (is_word (codes ",") w) (is_word (codes ")") w || false) (not_true (is_one_of (codes "," ∷ codes ")" ∷ []) w) h)).0

pub no_closing : (x : Piece) → is_listed x ≡ true → is_key (codes ")") (token_of x) ≡ false
no_closing x h =
    let w = as_word x in
    let q = or_parts (is_word (codes ",") w) (is_word (codes ")") w || false) (not_true (is_one_of (codes "," ∷ codes ")" ∷ []) w) h) in
    (or_parts (is_word (codes ")") w) false q.1).0

-- a word that ends no element
pub free_of : (x : Piece) → is_free x ≡ true → (is_word (codes "end-set") (as_word x) ≡ false) × (is_listed x ≡ true)
free_of x h =
    let w = as_word x in
    let q = or_parts (is_word (codes "end-set") w) (is_one_of (codes "," ∷ codes ")" ∷ []) w) (not_true (is_one_of enders w) h) in
    (q.0, not_from_false (is_one_of (codes "," ∷ codes ")" ∷ []) w) q.1)

pub all_listed : (xs : List Piece) → list_all is_free xs ≡ true → list_all is_listed xs ≡ true
all_listed [] h = refl
all_listed (x ∷ xs) h =
    let q = and_parts (is_free x) (list_all is_free xs) h in
    and_from (is_listed x) (list_all is_listed xs) (free_of x q.0).1 (all_listed xs q.1)

-- ---- the text

pub text_append : (xs ys : List Piece) → pieces_text 39 (xs ++ ys) ≡ pieces_text 39 xs ++ pieces_text 39 ys
unfolding pieces_text
text_append [] ys = refl
text_append (x ∷ xs) ys = ap (λ (t : List ℕ). spaces x.gap ++ word_then 39 x.text x.quoted t) (text_append xs ys) ∙ sym (piece_onto 39 x.gap x.text x.quoted (pieces_text 39 xs) (pieces_text 39 ys))
