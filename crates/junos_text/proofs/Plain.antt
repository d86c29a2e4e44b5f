-- Which texts are words of a Junos text without quotes, and which may stand in quotes.
use Rattle.std.proofs.Common.{◌≡◌, refl, sym, ap, subst, ◌∙◌, ℕ, ◌^◌, ◌<◌, ◌≤◌, ◌+◌, ◌-◌, Bool, true, false, ◌&&◌, ◌||◌, not, nat_le, List, [], ◌∷◌, ◌++◌, length, map, arith}
use Rattle.std.specs.Prelude.{decimal, ◌==◌}
use Rattle.std.specs.List.{list_any, AllByRecursion}
use Rattle.std.proofs.lemmas.Bool.{and_parts, and_from, and_right, or_parts, or_from, or_left, or_right, not_from_false, le-leb}
use Rattle.std.proofs.lemmas.List.Folds.{list_any-append}
use Rattle.route_types.specs.Address.{PrefixParts}
use Rattle.route_types.specs.Print.{octets_of, address_text, prefix_text}
use Rattle.route_types.specs.Words.{is_digit}
use Rattle.route_types.specs.declared.address.Address.{Address}
use Rattle.route_types.specs.declared.address.Family.TheVariants.{V4}
use Rattle.route_types.proofs.Numbers.{decimal_avoids, StartsWithDigit, decimal_starts}
use Rattle.route_types.proofs.Printed.{Avoids, IsPlain, prefix_text_avoids, prefix_text_starts, octets_within, dotted_avoids, append_starts}
use Rattle.text_words.specs.Text.{is_blank, starts_with_byte}
use Rattle.text_words.specs.JunosWords.{is_dropped, is_gap, is_plain, sort_at, sort_in, sorts, slash_sort}
use Rattle.text_words.specs.JunosWritten.{plain_bytes, is_plain_word, quoted_bytes, junos_signs}
use Rattle.text_words.specs.Signs.{is_word}
use Rattle.text_words.proofs.PlainWords.{none_of}
use Rattle.aspath_text.specs.IosGrammar.{joined_by}

-- the bytes that end a word
abbrev pub breaks : List ℕ
breaks = 9 ∷ 32 ∷ 10 ∷ 13 ∷ 34 ∷ 35 ∷ 91 ∷ 93 ∷ 59 ∷ 123 ∷ 125 ∷ []

abbrev pub breaks_word : ℕ → Bool
breaks_word c = list_any (λ b. c == b) breaks

-- a slash before no star
slash_plain : (s t : Bool) (c : ℕ) (cs : List ℕ) → (c == 47) ≡ s → starts_with_byte 42 cs ≡ t → (s && t) ≡ false → is_plain (sort_in ((47, slash_sort cs) ∷ []) c) ≡ true
slash_plain true true c cs e f h = absurd cc
slash_plain true false c cs e f h = rw (e, f, is_plain) refl
slash_plain false t c cs e f h = rw (e, is_plain) refl

-- a byte that ends no word, and is no slash before a star
byte_plain : (c : ℕ) (cs : List ℕ) → breaks_word c ≡ false → ((c == 47) && starts_with_byte 42 cs) ≡ false → is_plain (sort_at c cs) ≡ true
unfolding sort_at
byte_plain c cs h slash =
    let a = or_parts (c == 9) _ h in
    let b = or_parts (c == 32) _ a.1 in
    let d = or_parts (c == 10) _ b.1 in
    let e = or_parts (c == 13) _ d.1 in
    let f = or_parts (c == 34) _ e.1 in
    let g = or_parts (c == 35) _ f.1 in
    let i = or_parts (c == 91) _ g.1 in
    let j = or_parts (c == 93) _ i.1 in
    let k = or_parts (c == 59) _ j.1 in
    let l = or_parts (c == 123) _ k.1 in
    let m = or_parts (c == 125) _ l.1 in
    rw (a.0, b.0, d.0, e.0, f.0, g.0, i.0, j.0, k.0, l.0, m.0, is_plain, sort_at, is_gap, is_blank, is_dropped, sort_in) (slash_plain (c == 47) (starts_with_byte 42 cs) c cs refl refl slash)

-- no byte of a text is this one
abbrev pub lacks : ℕ → List ℕ → Type 0
lacks b w = list_any (λ c. c == b) w ≡ false

-- without stars no slash stands before one
no_star : (c : ℕ) (cs : List ℕ) → lacks 42 cs → ((c == 47) && starts_with_byte 42 cs) ≡ false
no_star c [] h = and_right (c == 47) false refl
no_star c (d ∷ ds) h = rw (or_parts (d == 42) (list_any (λ c. c == 42) ds) h).0 (and_right (c == 47) false refl)

-- a text in which no byte ends words, without stars
pub bytes_plain : (w : List ℕ) → list_any breaks_word w ≡ false → lacks 42 w → plain_bytes w ≡ true
unfolding plain_bytes
bytes_plain [] h star = refl
bytes_plain (c ∷ cs) h star =
    let q = or_parts (breaks_word c) (list_any breaks_word cs) h in
    let s = or_parts (c == 42) (list_any (λ d. d == 42) cs) star in
    and_from (is_plain (sort_at c cs)) (plain_bytes cs) (byte_plain c cs q.0 (no_star c cs s.1)) (bytes_plain cs q.1 s.1)

-- the same without slashes
pub bytes_slashless : (w : List ℕ) → list_any breaks_word w ≡ false → lacks 47 w → plain_bytes w ≡ true
unfolding plain_bytes
bytes_slashless [] h slash = refl
bytes_slashless (c ∷ cs) h slash =
    let q = or_parts (breaks_word c) (list_any breaks_word cs) h in
    let s = or_parts (c == 47) (list_any (λ d. d == 47) cs) slash in
    and_from (is_plain (sort_at c cs)) (plain_bytes cs) (byte_plain c cs q.0 (rw s.0 refl)) (bytes_slashless cs q.1 s.1)

-- a word of a text
abbrev pub IsPlainWord : List ℕ → Type 0
IsPlainWord w = is_word junos_signs w false ≡ true

pub plain_is_word : (w : List ℕ) → is_plain_word w ≡ true → IsPlainWord w
plain_is_word w h = or_right _ (is_plain_word w) h

pub some_plain : (w : List ℕ) → 1 ≤ length w → plain_bytes w ≡ true → IsPlainWord w
some_plain [] some h = absurd (omega (arith, some))
some_plain (c ∷ cs) some h = plain_is_word (c ∷ cs) h

-- ---- digits

digit_apart : (b : ℕ) → is_digit b ≡ false → (c : ℕ) → 48 ≤ c → c ≤ 57 → (c == b) ≡ false
digit_apart b other c low high = (or_parts (c == b) false (none_of is_digit (b ∷ []) c (or_from (is_digit b) false other refl) (and_from (nat_le 48 c) (nat_le c 57) (le-leb 48 c low) (le-leb c 57 high)))).0

breaks_avoided : Avoids breaks_word
breaks_avoided = record { digit = λ c low high. none_of is_digit breaks c refl (and_from (nat_le 48 c) (nat_le c 57) (le-leb 48 c low) (le-leb c 57 high)); dot = refl; slash = refl }

star_avoided : Avoids (λ c. c == 42)
star_avoided = record { digit = digit_apart 42 refl; dot = refl; slash = refl }

starts_some : (w : List ℕ) → StartsWithDigit w → 1 ≤ length w
starts_some w h = let some : 1 ≤ length (h.first ∷ h.behind) = omega arith in subst (λ (x : List ℕ). 1 ≤ length x) (sym h.is) some

pub decimal_word : (n : ℕ) → n < 2 ^ 64 → IsPlainWord (decimal n)
decimal_word n small =
    some_plain (decimal n) (starts_some (decimal n) (decimal_starts n small))
    (bytes_plain (decimal n) (decimal_avoids breaks_word breaks_avoided.digit n small) (decimal_avoids (λ c. c == 42) star_avoided.digit n small))

pub prefix_word : (p : PrefixParts) → IsPlain p → IsPlainWord (prefix_text p)
prefix_word p h =
    some_plain (prefix_text p) (starts_some (prefix_text p) (prefix_text_starts p h))
    (bytes_plain (prefix_text p) (prefix_text_avoids breaks_word p breaks_avoided h) (prefix_text_avoids (λ c. c == 42) p star_avoided h))

pub address_word : (a : Address) → a.bits < 2 ^ 32 → IsPlainWord (address_text a)
address_word a small =
    let o = octets_of a in
    let within = octets_within a small in
    let first = decimal_starts o.first (omega (arith, within.first)) in
    let starts = append_starts (decimal o.first) (46 ∷ decimal o.second ++ (46 ∷ decimal o.third ++ (46 ∷ decimal o.fourth))) first in
    some_plain (address_text a) (starts_some (address_text a) starts) (bytes_plain (address_text a) (dotted_avoids breaks_word o breaks_avoided within) (dotted_avoids (λ c. c == 42) o star_avoided within))

-- ---- texts of two parts

pub joined_lacks : (t : ℕ → Bool) (front back : List ℕ) (b : ℕ) → t b ≡ false → list_any t front ≡ false → list_any t back ≡ false → list_any t (front ++ (b ∷ back)) ≡ false
joined_lacks t front back b mark f g = list_any-append t front (b ∷ back) ∙ or_from (list_any t front) (t b || list_any t back) f (or_from (t b) (list_any t back) mark g)

joined_some : (front back : List ℕ) (b : ℕ) → 1 ≤ length (front ++ (b ∷ back))
joined_some [] back b = omega arith
joined_some (c ∷ cs) back b = omega arith

-- two parts joined by a byte, in which no byte ends words and none is a slash
pub parts_word : (front back : List ℕ) (b : ℕ) → breaks_word b ≡ false → (b == 47) ≡ false → list_any breaks_word front ≡ false → list_any breaks_word back ≡ false → lacks 47 front → lacks 47 back → IsPlainWord (front ++ (b ∷ back))
parts_word front back b mark slash f g h k =
    some_plain (front ++ (b ∷ back)) (joined_some front back b) (bytes_slashless (front ++ (b ∷ back)) (joined_lacks breaks_word front back b mark f g) (joined_lacks (λ c. c == 47) front back b slash h k))

pub decimal_breaks : (n : ℕ) → n < 2 ^ 64 → list_any breaks_word (decimal n) ≡ false
decimal_breaks n small = decimal_avoids breaks_word breaks_avoided.digit n small

pub decimal_slashless : (n : ℕ) → n < 2 ^ 64 → lacks 47 (decimal n)
decimal_slashless n small = decimal_avoids (λ c. c == 47) (digit_apart 47 refl) n small

pub decimal_starless : (n : ℕ) → n < 2 ^ 64 → lacks 42 (decimal n)
decimal_starless n small = decimal_avoids (λ c. c == 42) (digit_apart 42 refl) n small

-- ---- quotes

-- the bytes that quotes can't hold
abbrev breaks_quote : ℕ → Bool
breaks_quote c = (c == 34) || (c == 13)

quote_dropped : (c : ℕ) (cs : List ℕ) → (c == 13) ≡ false → is_dropped c cs ≡ false
quote_dropped c cs h = rw h refl

-- a text without quotes and CRs
pub bytes_quotable : (w : List ℕ) → list_any breaks_quote w ≡ false → quoted_bytes w ≡ true
unfolding quoted_bytes
bytes_quotable [] h = refl
bytes_quotable (c ∷ cs) h =
    let q = or_parts (breaks_quote c) (list_any breaks_quote cs) h in
    let p = or_parts (c == 34) (c == 13) q.0 in
    and_from (not ((c == 34) || is_dropped c cs)) (quoted_bytes cs) (not_from_false ((c == 34) || is_dropped c cs) (or_from (c == 34) (is_dropped c cs) p.0 (quote_dropped c cs p.1))) (bytes_quotable cs q.1)

decimal_quotable : (n : ℕ) → n < 2 ^ 64 → list_any breaks_quote (decimal n) ≡ false
decimal_quotable n small = decimal_avoids breaks_quote (λ c low high. or_from (c == 34) (c == 13) (digit_apart 34 refl c low high) (digit_apart 13 refl c low high)) n small

numbers_lack : (ns : List ℕ) → AllByRecursion (λ n. n ≤ 2 ^ 32 - 1) ns → list_any breaks_quote (joined_by 32 (map decimal ns)) ≡ false
unfolding joined_by
numbers_lack [] h = refl
numbers_lack (n ∷ []) h = decimal_quotable n (omega (arith, h.0))
numbers_lack (n ∷ m ∷ ns) h = joined_lacks breaks_quote (decimal n) (joined_by 32 (map decimal (m ∷ ns))) 32 refl (decimal_quotable n (omega (arith, h.0))) (numbers_lack (m ∷ ns) h.1)

pub numbers_quotable : (ns : List ℕ) → AllByRecursion (λ n. n ≤ 2 ^ 32 - 1) ns → quoted_bytes (joined_by 32 (map decimal ns)) ≡ true
numbers_quotable ns h = bytes_quotable (joined_by 32 (map decimal ns)) (numbers_lack ns h)
