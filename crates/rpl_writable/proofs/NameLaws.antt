-- Words that may name a block, and the names of sets.
use Rattle.std.proofs.Common.{◌≡◌, refl, sym, ap, ◌∙◌, ℕ, ◌+◌, ◌^◌, ◌<◌, ◌≤◌, Bool, true, false, ◌||◌, not, List, [], ◌∷◌, ◌++◌, length, arith}
use Rattle.std.specs.Prelude.{codes, bytes_eq, decimal, nat_le, ◌==◌}
use Rattle.std.specs.List.{list_any, list_all}
use Rattle.std.proofs.lemmas.Bool.{le-leb, and_parts, and_from, or_parts, or_from, or_right, not_from_false}
use Rattle.std.proofs.lemmas.List.Folds.{list_any-append, list_all-append}
use Rattle.std.proofs.lemmas.Fmt.{decimal_nonempty}
use Rattle.route_types.specs.Words.{is_digit}
use Rattle.route_types.proofs.Numbers.{decimal_avoids, StartsWithDigit, decimal_starts}
use Rattle.policy_text.specs.Names.{is_mark, is_name}
use Rattle.text_words.specs.Text.{starts_with_byte}
use Rattle.text_words.specs.RplCut.{starts}
use Rattle.text_words.specs.RplText.{breaks, is_letter, is_plain}
use Rattle.text_words.proofs.RplLexes.{apart, not_true}
use Rattle.text_words.proofs.PlainWords.{none_of, no_byte_of, plain_word, no_keys}
use Rattle.rpl_words.specs.Values.{is_rpl_name}
use Rattle.rpl_layout.specs.Forms.{set_name}
use Rattle.rpl_text.specs.Written.{HeadsBlock, NamesWithin}
use Rattle.rpl_writable.specs.Names.{breaks_names}

-- ---- words of one sort of bytes

no_byte : (sort : ℕ → Bool) (b : ℕ) (w : List ℕ) → sort b ≡ false → list_all sort w ≡ true → starts_with_byte b w ≡ false
no_byte sort b [] without all = refl
no_byte sort b (c ∷ cs) without all = apart sort b c true without (and_parts (sort c) (list_all sort cs) all).0

pub sort_heads : (sort : ℕ → Bool) (w : List ℕ) → list_any sort breaks_names ≡ false → 1 ≤ length w → list_all sort w ≡ true → HeadsBlock w
sort_heads sort w without some all =
    let dollar = or_parts (sort 36) (list_any sort (breaks ++ codes "\"'[]{}(),;")) without in
    let others = or_parts (list_any sort breaks) (list_any sort (codes "\"'[]{}(),;")) (sym (list_any-append sort breaks (codes "\"'[]{}(),;")) ∙ dollar.1) in
    let marks : list_any is_mark w ≡ false = no_byte_of sort (codes "\"'[]{}(),;") w others.1 all in
    record { plain = plain_word w some (no_byte_of sort breaks w others.0 all); named = rw (marks, no_byte sort 36 w dollar.0 all) refl }

-- ---- a name with more behind it

module _ (name behind : List ℕ) (heads : HeadsBlock name) (letters : list_all is_letter behind ≡ true) (marks : list_any is_mark behind ≡ false) where
  all_letters : (w : List ℕ) → is_plain w ≡ true → list_all is_letter w ≡ true
  all_letters [] h = absurd cc
  all_letters (c ∷ cs) h = h

  plain_of : (w : List ℕ) → is_plain w ≡ true → list_all is_letter (w ++ behind) ≡ true → is_plain (w ++ behind) ≡ true
  plain_of [] h k = absurd cc
  plain_of (c ∷ cs) h k = k

  same_start : (w : List ℕ) → is_plain w ≡ true → starts_with_byte 36 (w ++ behind) ≡ starts_with_byte 36 w
  same_start [] h = absurd cc
  same_start (c ∷ cs) h = refl

  more_heads : HeadsBlock (name ++ behind)
  more_heads =
      let named = and_parts (is_name name) (not (starts_with_byte 36 name)) heads.named in
      let no_marks : list_any is_mark (name ++ behind) ≡ false =
      list_any-append is_mark name behind ∙ or_from (list_any is_mark name) (list_any is_mark behind) (not_true (list_any is_mark name) named.0) marks in
      record {
        plain =
            plain_of name heads.plain (list_all-append is_letter name behind
            ∙ and_from (list_all is_letter name) (list_all is_letter behind) (all_letters name heads.plain) letters);
        named =
            and_from (is_name (name ++ behind)) (not (starts_with_byte 36 (name ++ behind))) (not_from_false (list_any is_mark (name ++ behind)) no_marks)
            (ap not (same_start name heads.plain) ∙ named.1);
      }

-- ---- the names of sets

digit_in : (c : ℕ) → 48 ≤ c → c ≤ 57 → is_digit c ≡ true
digit_in c low high = and_from (nat_le 48 c) (nat_le c 57) (le-leb 48 c low) (le-leb c 57 high)

number_letters : (n : ℕ) → n < 2 ^ 64 → list_all is_letter (decimal n) ≡ true
number_letters n small = by_cases (decimal n) (plain_word (decimal n) (decimal_nonempty n small) (decimal_avoids (λ c. list_any (λ b. c == b) breaks) (λ c low high. none_of is_digit breaks c refl (digit_in c low high)) n small)) where
  by_cases : (w : List ℕ) → is_plain w ≡ true → list_all is_letter w ≡ true
  by_cases [] h = absurd cc
  by_cases (c ∷ cs) h = h

number_marks : (n : ℕ) → n < 2 ^ 64 → list_any is_mark (decimal n) ≡ false
number_marks n small = decimal_avoids is_mark (λ c low high. none_of is_digit (codes "\"'[]{}(),;") c refl (digit_in c low high)) n small

-- some byte is a digit: no keyword holds one
has_digit : (n : ℕ) → n < 2 ^ 64 → list_any is_digit (decimal n) ≡ true
has_digit n small =
    let h : StartsWithDigit (decimal n) = decimal_starts n small in
    ap (λ (w : List ℕ). list_any is_digit w) h.is ∙ ap (λ b. b || list_any is_digit h.behind) h.digit

module _ (name letter : List ℕ) (heads : HeadsBlock name) (plain : list_all is_letter letter ≡ true) (unmarked : list_any is_mark letter ≡ false) where
  -- the name of a set may name its block
  pub set_heads : (place : ℕ) → place < 2 ^ 63 → HeadsBlock (set_name name letter place)
  set_heads place small =
      let n : ℕ = place + 1 in
      let few : n < 2 ^ 64 = omega arith in
      more_heads name (letter ++ decimal n) heads
      (list_all-append is_letter letter (decimal n) ∙ and_from (list_all is_letter letter) (list_all is_letter (decimal n)) plain (number_letters n few))
      (list_any-append is_mark letter (decimal n) ∙ or_from (list_any is_mark letter) (list_any is_mark (decimal n)) unmarked (number_marks n few))

  -- and may stand in a condition
  pub set_within : (place : ℕ) → place < 2 ^ 63 → NamesWithin (set_name name letter place)
  set_within place small =
      let n : ℕ = place + 1 in
      let few : n < 2 ^ 64 = omega arith in
      let h : HeadsBlock (set_name name letter place) = set_heads place small in
      let keys : List (List ℕ) = codes "then" ∷ codes "end-policy" ∷ starts in
      let behind : list_any is_digit (letter ++ decimal n) ≡ true = list_any-append is_digit letter (decimal n) ∙ or_right (list_any is_digit letter) (list_any is_digit (decimal n)) (has_digit n few) in
      let has : list_any is_digit (set_name name letter place) ≡ true = list_any-append is_digit name (letter ++ decimal n) ∙ or_right (list_any is_digit name) (list_any is_digit (letter ++ decimal n)) behind in
      let free = not_from_false (list_any (λ key. bytes_eq key (set_name name letter place)) keys) (no_keys is_digit keys (set_name name letter place) refl has) in
      record { plain = h.plain; named = and_from (is_rpl_name (set_name name letter place)) (not (list_any (λ key. bytes_eq key (set_name name letter place)) keys)) h.named free }
