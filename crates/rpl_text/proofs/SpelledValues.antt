-- The words of values: they may stand in a text, are no keywords, and spell the values.
use Rattle.std.proofs.Common.{◌≡◌, refl, sym, ap, subst, ◌∙◌, ℕ, ◌^◌, ◌<◌, ◌≤◌, Bool, true, false, ◌&&◌, not, nat_le, List, [], ◌∷◌, ◌++◌, length, arith, inl, inr}
use Rattle.std.specs.Prelude.{bytes_eq, decimal, ◌==◌}
use Rattle.std.specs.List.{list_any, list_all}
use Rattle.std.proofs.lemmas.Bool.{eqb-true, le-leb, and_parts, and_from, or_left, or_right, or_from}
use Rattle.std.proofs.lemmas.List.{length-append}
use Rattle.std.proofs.lemmas.List.Folds.{list_any-append}
use Rattle.route_types.specs.Address.{PrefixParts}
use Rattle.route_types.specs.Community.{RectParts}
use Rattle.route_types.specs.Print.{octets_of, address_text, prefix_text}
use Rattle.route_types.specs.Words.{is_digit, IsPrefix, IsAddress}
use Rattle.route_types.specs.declared.address.Address.{Address}
use Rattle.route_types.specs.declared.address.Family.TheVariants.{V4}
use Rattle.route_types.proofs.Numbers.{decimal_avoids, StartsWithDigit, decimal_starts}
use Rattle.route_types.proofs.Printed.{Avoids, IsPlain, prefix_in_printed, prefix_text_avoids, prefix_text_starts, octets_within, octets_address, dotted_avoids, append_starts}
use Rattle.route_types.proofs.Spelled.{prefix_in_found}
use Rattle.text_words.specs.RplText.{breaks, is_plain, is_letter, is_quotable}
use Rattle.text_words.proofs.PlainWords.{none_of, plain_word}
use Rattle.text_words.proofs.RplLexes.{apart, not_true}
use Rattle.rpl_words.specs.Values.{IsNumberWord, IsParameter, IsHalf, IsRect, is_rpl_name}
use Rattle.rpl_words.specs.declared.number.RplNumber.{RplNumber}
use Rattle.rpl_words.specs.declared.number.RplNumber.TheVariants.{Fixed, Parameter as GivenNumber}
use Rattle.rpl_text.specs.Words.{given, number_text, half_by, half_text, rect_text, in_quotes}
use Rattle.rpl_text.specs.Written.{HeadsBlock, NamesWithin, FitsNumber, FitsRect}
use Rattle.rpl_text.proofs.Pieces.{keys, is_value, IsPart, IsPartText, plain_value, part_by}

-- a byte that stands in no plain word
abbrev breaks_word : ℕ → Bool
breaks_word c = list_any (λ b. c == b) breaks

breaks_avoided : Avoids breaks_word
breaks_avoided = record { digit = λ c low high. none_of is_digit breaks c refl (and_from (nat_le 48 c) (nat_le c 57) (le-leb 48 c low) (le-leb c 57 high)); dot = refl; slash = refl }

-- some byte is a digit
pub starts_has : (w : List ℕ) → StartsWithDigit w → list_any is_digit w ≡ true
starts_has w h = ap (λ (x : List ℕ). list_any is_digit x) h.is ∙ or_left (is_digit h.first) (list_any is_digit h.behind) h.digit

starts_some : (w : List ℕ) → StartsWithDigit w → 0 < length w
starts_some w h = let some : 0 < length (h.first ∷ h.behind) = omega arith in subst (λ (x : List ℕ). 0 < length x) (sym h.is) some

-- a word that starts with a digit, and in which no byte breaks words
digit_part : (w : List ℕ) → StartsWithDigit w → list_any breaks_word w ≡ false → IsPartText w
digit_part w first none = part_by is_digit w refl refl (plain_word w (starts_some w first) none) (starts_has w first)

-- ---- numbers and parameters

pub decimal_part : (n : ℕ) → n < 2 ^ 64 → IsPartText (decimal n)
decimal_part n small = digit_part (decimal n) (decimal_starts n small) (decimal_avoids breaks_word breaks_avoided.digit n small)

given_plain : (x : List ℕ) → is_plain x ≡ true → is_plain (given x) ≡ true
given_plain [] h = absurd cc
given_plain (c ∷ cs) h = h

pub given_part : (x : List ℕ) → HeadsBlock x → IsPartText (given x)
given_part x h = part_by (λ c. c == 36) (given x) refl refl (given_plain x h.plain) refl

plain_some : (x : List ℕ) → is_plain x ≡ true → 1 ≤ length x
plain_some [] h = absurd cc
plain_some (c ∷ cs) h = omega arith

pub given_spelled : (x : List ℕ) → HeadsBlock x → IsParameter (given x) x
given_spelled x h = record { spelled = refl; some = plain_some x h.plain; named = h.named }

pub number_part : (within : Bool) (most : ℕ) (n : RplNumber ℕ) → most < 2 ^ 64 → FitsNumber within most n → IsPartText (number_text n)
number_part within most (Fixed n) small h = decimal_part n (omega (arith, h))
number_part within most (GivenNumber x) small h = given_part x h.1

pub number_spelled : (within : Bool) (most : ℕ) (n : RplNumber ℕ) → FitsNumber within most n → IsNumberWord within most (number_text n) n
number_spelled within most (Fixed n) h = record { spelled = refl; within = h }
number_spelled within most (GivenNumber x) h = (h.0, given_spelled x h.1)

-- ---- words in quotes

pub quoted_part : (text : List ℕ) → list_all is_quotable text ≡ true → IsPart (in_quotes text)
quoted_part text h = record { value = rw h refl; free = refl }

plain_letters : (w : List ℕ) → is_plain w ≡ true → list_all is_letter w ≡ true
plain_letters [] h = absurd cc
plain_letters (c ∷ cs) h = h

letters_quotable : (w : List ℕ) → list_all is_letter w ≡ true → list_all is_quotable w ≡ true
letters_quotable [] h = refl
letters_quotable (c ∷ cs) h =
    let q = and_parts (is_letter c) (list_all is_letter cs) h in
    rw (apart is_letter 39 c true refl q.0, apart is_letter 10 c true refl q.0) (letters_quotable cs q.1)

pub number_quoted : (within : Bool) (most : ℕ) (n : RplNumber ℕ) → most < 2 ^ 64 → FitsNumber within most n → IsPart (in_quotes (number_text n))
number_quoted within most n small h = quoted_part (number_text n) (letters_quotable (number_text n) (plain_letters (number_text n) (number_part within most n small h).plain))

-- ---- halves and community elements

half_avoids : (one all : Bool) (least most : ℕ) → least < 2 ^ 64 → most < 2 ^ 64 → list_any breaks_word (half_by one all least most) ≡ false
half_avoids true all least most l m = decimal_avoids breaks_word breaks_avoided.digit least l
half_avoids false true least most l m = refl
half_avoids false false least most l m =
    let rest = decimal most ++ (93 ∷ []) in
    list_any-append breaks_word (decimal least) (46 ∷ 46 ∷ rest)
    ∙ or_from (list_any breaks_word (decimal least)) (list_any breaks_word rest) (decimal_avoids breaks_word breaks_avoided.digit least l)
    (list_any-append breaks_word (decimal most) (93 ∷ []) ∙ or_from (list_any breaks_word (decimal most)) false (decimal_avoids breaks_word breaks_avoided.digit most m) refl)

pub rect_part : (r : RectParts) → FitsRect r → IsPartText (rect_text r)
rect_part r h =
    let high = half_text r.high_least r.high_most in
    let low = half_text r.low_least r.low_most in
    let colon : ℕ → Bool = λ c. c == 58 in
    let a = half_avoids (r.high_least == r.high_most) ((r.high_least == 0) && (r.high_most == 65535)) r.high_least r.high_most (omega (arith, h.high, h.high_most)) (omega (arith, h.high_most)) in
    let b = half_avoids (r.low_least == r.low_most) ((r.low_least == 0) && (r.low_most == 65535)) r.low_least r.low_most (omega (arith, h.low, h.low_most)) (omega (arith, h.low_most)) in
    let none = list_any-append breaks_word high (58 ∷ low) ∙ or_from (list_any breaks_word high) (list_any breaks_word low) a b in
    let some : 0 < length (high ++ (58 ∷ low)) = omega (arith, length-append high (58 ∷ low)) in
    let has = list_any-append colon high (58 ∷ low) ∙ or_right (list_any colon high) true refl in
    part_by colon (rect_text r) refl refl (plain_word (rect_text r) some none) has

half_spelled : (one all : Bool) (least most : ℕ) → (least == most) ≡ one → ((least == 0) && (most == 65535)) ≡ all → least ≤ most → most ≤ 65535 → IsHalf (half_by one all least most) (least, most)
half_spelled true all least most e f rises top = inl (record { spelled = refl; within = omega (arith, rises, top) }, sym (eqb-true least most e))
half_spelled false true least most e f rises top =
    let q = and_parts (least == 0) (most == 65535) f in
    inr (inl (refl, eqb-true least 0 q.0, eqb-true most 65535 q.1))
half_spelled false false least most e f rises top = inr (inr (refl, rises, top))

pub rect_spelled : (r : RectParts) → FitsRect r → IsRect (rect_text r) r
rect_spelled r h = inl (record {
  high = half_text r.high_least r.high_most;
  low = half_text r.low_least r.low_most;
  spelled = refl;
  high_half = half_spelled (r.high_least == r.high_most) ((r.high_least == 0) && (r.high_most == 65535)) r.high_least r.high_most refl refl h.high h.high_most;
  low_half = half_spelled (r.low_least == r.low_most) ((r.low_least == 0) && (r.low_most == 65535)) r.low_least r.low_most refl refl h.low h.low_most;
})

-- ---- prefixes and addresses

pub prefix_part : (p : PrefixParts) → IsPlain p → IsPartText (prefix_text p)
prefix_part p h = digit_part (prefix_text p) (prefix_text_starts p h) (prefix_text_avoids breaks_word p breaks_avoided h)

pub prefix_spelled : (p : PrefixParts) → IsPlain p → IsPrefix (prefix_text p) p
prefix_spelled p h = prefix_in_found (prefix_text p) p (prefix_in_printed p h.family h.masked)

pub address_part : (a : Address) → a.bits < 2 ^ 32 → IsPartText (address_text a)
address_part a small =
    let o = octets_of a in
    let within = octets_within a small in
    let first = decimal_starts o.first (omega (arith, within.first)) in
    digit_part (address_text a) (append_starts (decimal o.first) (46 ∷ decimal o.second ++ (46 ∷ decimal o.third ++ (46 ∷ decimal o.fourth))) first) (dotted_avoids breaks_word o breaks_avoided within)

pub address_spelled : (a : Address) → a.family ≡ V4 → a.bits < 2 ^ 32 → IsAddress (address_text a) a
address_spelled a v4 small =
    let within = octets_within a small in
    record { octets = octets_of a; first = within.first; second = within.second; third = within.third; fourth = within.fourth; spelled = refl; value = sym (octets_address a v4 small) }

-- ---- names

pub name_value : (gap : ℕ) (n : List ℕ) → NamesWithin n → is_value (record { gap = gap; text = n; quoted = false }) ≡ true
name_value gap n h =
    let q = and_parts (is_rpl_name n) (not (list_any (λ key. bytes_eq key n) keys)) h.named in
    plain_value gap n h.plain (not_true (list_any (λ key. bytes_eq key n) keys) q.1)
