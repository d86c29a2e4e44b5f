-- Words that may be names, and the names of definitions and of terms.
use Rattle.std.proofs.Common.{◌≡◌, refl, ◌∙◌, ℕ, ◌+◌, ◌^◌, ◌<◌, ◌≤◌, Bool, true, false, List, [], ◌∷◌, ◌++◌, length, arith}
use Rattle.std.specs.Prelude.{codes, decimal, nat_le, ◌==◌}
use Rattle.std.specs.List.{list_any, list_all}
use Rattle.std.proofs.lemmas.Bool.{le-leb, and_parts, and_from, or_parts, or_from, not_from_false}
use Rattle.std.proofs.lemmas.List.Folds.{list_any-append}
use Rattle.route_types.specs.Words.{is_digit}
use Rattle.route_types.proofs.Numbers.{decimal_avoids}
use Rattle.policy_text.specs.Names.{is_mark}
use Rattle.text_words.specs.JunosWords.{is_plain, sort_at}
use Rattle.text_words.specs.JunosWritten.{plain_bytes, is_plain_word}
use Rattle.text_words.proofs.RplLexes.{not_true}
use Rattle.text_words.proofs.PlainWords.{none_of, no_byte_of}
use Rattle.junos_text.specs.Written.{FitsName}
use Rattle.junos_text.proofs.Plain.{breaks_word, lacks, bytes_plain, decimal_breaks, decimal_starless}
use Rattle.junos_layout.specs.Options.{own_name}
use Rattle.junos_writable.specs.Names.{breaks_names}

-- ---- words of one sort of bytes

-- bytes of a word, if it has any
some_plain_word : (w : List ℕ) → 1 ≤ length w → plain_bytes w ≡ true → is_plain_word w ≡ true
some_plain_word [] some h = absurd (omega (arith, some))
some_plain_word (c ∷ cs) some h = h

pub sort_names : (sort : ℕ → Bool) (w : List ℕ) → list_any sort breaks_names ≡ false → 1 ≤ length w → list_all sort w ≡ true → FitsName w
sort_names sort w without some all =
    let star = or_parts (sort 42) _ without in
    let tab = or_parts (sort 9) _ star.1 in
    let space = or_parts (sort 32) _ tab.1 in
    let line = or_parts (sort 10) _ space.1 in
    let back = or_parts (sort 13) _ line.1 in
    let hash = or_parts (sort 35) (list_any sort (codes "\"'[]{}(),;")) back.1 in
    let a = or_parts (sort 34) _ hash.1 in
    let b = or_parts (sort 39) _ a.1 in
    let c = or_parts (sort 91) _ b.1 in
    let d = or_parts (sort 93) _ c.1 in
    let e = or_parts (sort 123) _ d.1 in
    let f = or_parts (sort 125) _ e.1 in
    let g = or_parts (sort 40) _ f.1 in
    let h = or_parts (sort 41) _ g.1 in
    let i = or_parts (sort 44) _ h.1 in
    let j = or_parts (sort 59) _ i.1 in
    let breaks_free : list_any sort (9 ∷ 32 ∷ 10 ∷ 13 ∷ 34 ∷ 35 ∷ 91 ∷ 93 ∷ 59 ∷ 123 ∷ 125 ∷ []) ≡ false = rw (tab.0, space.0, line.0, back.0, a.0, hash.0, c.0, d.0, j.0, e.0, f.0) refl in
    let star_free : list_any sort (42 ∷ []) ≡ false = rw star.0 refl in
    let marks : list_any is_mark w ≡ false = no_byte_of sort (codes "\"'[]{}(),;") w hash.1 all in
    record {
      plain = some_plain_word w some (bytes_plain w (no_byte_of sort (9 ∷ 32 ∷ 10 ∷ 13 ∷ 34 ∷ 35 ∷ 91 ∷ 93 ∷ 59 ∷ 123 ∷ 125 ∷ []) w breaks_free all) (no_star sort w star.0 all));
      named = rw marks refl;
    }
  where
    no_star : (s : ℕ → Bool) (v : List ℕ) → s 42 ≡ false → list_all s v ≡ true → lacks 42 v
    no_star s [] without all = refl
    no_star s (c ∷ cs) without all =
        let q = and_parts (s c) (list_all s cs) all in
        let one = or_parts (c == 42) false (none_of s (42 ∷ []) c (or_from (s 42) false without refl) q.0) in
        or_from (c == 42) (list_any (λ x. x == 42) cs) one.0 (no_star s cs without q.1)

-- ---- a name with `-` and more behind it

-- the first bytes of a word stay what they are before `-`
dash_plain : (w bs : List ℕ) → plain_bytes w ≡ true → plain_bytes (45 ∷ bs) ≡ true → plain_bytes (w ++ (45 ∷ bs)) ≡ true
unfolding plain_bytes sort_at
dash_plain [] bs h k = k
dash_plain (c ∷ []) bs h k = let q = and_parts (is_plain (sort_at c [])) true h in and_from (is_plain (sort_at c (45 ∷ bs))) (plain_bytes (45 ∷ bs)) q.0 k
dash_plain (c ∷ d ∷ ds) bs h k =
    let q = and_parts (is_plain (sort_at c (d ∷ ds))) (plain_bytes (d ∷ ds)) h in
    and_from (is_plain (sort_at c (d ∷ (ds ++ (45 ∷ bs))))) (plain_bytes (d ∷ (ds ++ (45 ∷ bs)))) q.0 (dash_plain (d ∷ ds) bs q.1 k)

word_bytes : (w : List ℕ) → is_plain_word w ≡ true → plain_bytes w ≡ true
word_bytes [] h = absurd cc
word_bytes (c ∷ cs) h = h

dash_some : (w bs : List ℕ) → 1 ≤ length (w ++ (45 ∷ bs))
dash_some [] bs = omega arith
dash_some (c ∷ cs) bs = omega arith

digit_in : (c : ℕ) → 48 ≤ c → c ≤ 57 → is_digit c ≡ true
digit_in c low high = and_from (nat_le 48 c) (nat_le c 57) (le-leb 48 c low) (le-leb c 57 high)

number_marks : (n : ℕ) → n < 2 ^ 64 → list_any is_mark (decimal n) ≡ false
number_marks n small = decimal_avoids is_mark (λ c low high. none_of is_digit (codes "\"'[]{}(),;") c refl (digit_in c low high)) n small

-- the name of a definition, whose letter stands in no name's way
pub own_fits : (name : List ℕ) (l : ℕ) → FitsName name → breaks_word l ≡ false → (l == 42) ≡ false → is_mark l ≡ false → (place : ℕ) → place < 2 ^ 63 → FitsName (own_name name (45 ∷ l ∷ []) place)
own_fits name l fits breaks star mark place small =
    let n : ℕ = place + 1 in
    let few : n < 2 ^ 64 = omega (arith, small) in
    let behind : List ℕ = l ∷ decimal n in
    let letter : list_any breaks_word behind ≡ false = or_from (breaks_word l) (list_any breaks_word (decimal n)) breaks (decimal_breaks n few) in
    let starless : lacks 42 behind = or_from (l == 42) (list_any (λ c. c == 42) (decimal n)) star (decimal_starless n few) in
    let tail : plain_bytes (45 ∷ behind) ≡ true = bytes_plain (45 ∷ behind) letter starless in
    let name_marks : list_any is_mark name ≡ false = not_true (list_any is_mark name) fits.named in
    let marks : list_any is_mark (name ++ (45 ∷ behind)) ≡ false =
    list_any-append is_mark name (45 ∷ behind) ∙ or_from (list_any is_mark name) (list_any is_mark (45 ∷ behind)) name_marks (or_from (is_mark l) (list_any is_mark (decimal n)) mark (number_marks n few)) in
    record {
      plain = some_plain_word (name ++ (45 ∷ behind)) (dash_some name behind) (dash_plain name behind (word_bytes name fits.plain) tail);
      named = not_from_false (list_any is_mark (name ++ (45 ∷ behind))) marks;
    }

-- the name of a term
pub term_fits : (n : ℕ) → n < 2 ^ 64 → FitsName (codes "t" ++ decimal n)
term_fits n small = record {
  plain = bytes_plain (116 ∷ decimal n) (decimal_breaks n small) (decimal_starless n small);
  named = not_from_false (list_any is_mark (116 ∷ decimal n)) (number_marks n small);
}
