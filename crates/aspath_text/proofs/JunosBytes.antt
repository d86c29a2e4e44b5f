-- Which bytes stand in the words of a Junos pattern.
use Rattle.std.proofs.Common.{◌≡◌, refl, sym, ap, subst, ◌∙◌, ℕ, ◌+◌, ◌^◌, ◌<◌, ◌≤◌, Bool, true, false, not, cond, List, [], ◌∷◌, ◌++◌, length, arith, inl, inr, ◌⊎◌, lit<}
use Rattle.std.specs.Prelude.{◌==◌, ◌||◌, decimal}
use Rattle.std.specs.List.{list_any, list_all, position_or_len}
use Rattle.std.proofs.lemmas.Bool.{eqb-true, ne_eqb, or_from, or_parts, or_cases, and_parts}
use Rattle.std.proofs.lemmas.List.{length-append}
use Rattle.std.proofs.lemmas.List.Folds.{list_any-append}
use Rattle.text_words.specs.Text.{is_blank}
use Rattle.route_types.specs.RouteText.{Each}
use Rattle.route_types.proofs.Numbers.{decimal_avoids}
use Rattle.std.proofs.lemmas.Fmt.{decimal_nonempty}
use Rattle.aspath_text.specs.IosGrammar.{joined_by}
use Rattle.path_patterns.specs.Items.{greatest}
use Rattle.aspath_text.specs.JunosGrammar.{AreBlanks, SpellsRange, SpellsMember}
use Rattle.aspath_text.specs.JunosRead.{is_sign}
use Rattle.path_patterns.specs.declared.items.NumberRange.{NumberRange}

-- ---- tests that hold for no digit

-- the test holds for no digit
abbrev pub NoDigit : (ℕ → Bool) → Type 0
NoDigit t = (c : ℕ) → 48 ≤ c → c ≤ 57 → t c ≡ false

pub below_digits : (b : ℕ) → b < 48 → NoDigit (λ c. c == b)
below_digits b h c low high = ne_eqb c b (λ e. omega (arith, e, h, low))

pub above_digits : (b : ℕ) → 57 < b → NoDigit (λ c. c == b)
above_digits b h c low high = ne_eqb c b (λ e. omega (arith, e, h, high))

either_digit : (s t : ℕ → Bool) → NoDigit s → NoDigit t → NoDigit (λ c. s c || t c)
either_digit s t p q c low high = or_from (s c) (t c) (p c low high) (q c low high)

pub blank_digit : NoDigit is_blank
blank_digit = either_digit (λ c. c == 32) (λ c. c == 9) (below_digits 32 (lit< tt)) (below_digits 9 (lit< tt))

-- a parenthesis
abbrev pub is_paren : ℕ → Bool
is_paren c = (c == 40) || (c == 41)

pub paren_digit : NoDigit is_paren
paren_digit = either_digit (λ c. c == 40) (λ c. c == 41) (below_digits 40 (lit< tt)) (below_digits 41 (lit< tt))

-- a byte that may end an item: a blank or a parenthesis
abbrev pub is_break : ℕ → Bool
is_break c = is_blank c || is_paren c

pub break_digit : NoDigit is_break
break_digit = either_digit is_blank is_paren blank_digit paren_digit

pub sign_digit : NoDigit is_sign
sign_digit c low high =
    or_from ((c == 42) || (c == 43) || (c == 63)) (c == 123)
    (or_from ((c == 42) || (c == 43)) (c == 63)
    (or_from (c == 42) (c == 43) (below_digits 42 (lit< tt) c low high) (below_digits 43 (lit< tt) c low high))
    (above_digits 63 (lit< tt) c low high))
    (above_digits 123 (lit< tt) c low high)

-- ---- ranges and members

pub small : (n most : ℕ) → n ≤ most → most ≤ greatest → n < 2 ^ 64
small n most h k = omega arith

pub number_avoids : (t : ℕ → Bool) → NoDigit t → (n : ℕ) → n ≤ greatest → list_any t (decimal n) ≡ false
number_avoids t digit n h = decimal_avoids t digit n (small n greatest h (omega arith))

pub dash_avoids : (t : ℕ → Bool) → NoDigit t → t 45 ≡ false → (a b : ℕ) → a ≤ greatest → b ≤ greatest → list_any t (decimal a ++ (45 ∷ decimal b)) ≡ false
dash_avoids t digit dash a b h k =
    list_any-append t (decimal a) (45 ∷ decimal b)
    ∙ or_from (list_any t (decimal a)) (list_any t (45 ∷ decimal b)) (number_avoids t digit a h) (or_from (t 45) (list_any t (decimal b)) dash (number_avoids t digit b k))

-- a test that holds for no digit, dash and dot holds for no byte of a range
pub range_avoids : (t : ℕ → Bool) → NoDigit t → t 45 ≡ false → t 46 ≡ false → (word : List ℕ) (r : NumberRange) → SpellsRange word r → list_any t word ≡ false
range_avoids t digit dash dot word r (inl h) = ap (λ (w : List ℕ). list_any t w) h.0 ∙ or_from (t 46) false dot refl
range_avoids t digit dash dot word r (inr (inl h)) = ap (λ (w : List ℕ). list_any t w) h.0.spelled ∙ number_avoids t digit r.least h.0.within
range_avoids t digit dash dot word r (inr (inr h)) = ap (λ (w : List ℕ). list_any t w) h.0 ∙ dash_avoids t digit dash r.least r.most (omega (arith, h.1, h.2)) h.2

-- a range has a first byte
pub range_some : (word : List ℕ) (r : NumberRange) → SpellsRange word r → 0 < length word
range_some word r (inl h) = subst (λ (w : List ℕ). 0 < length w) (sym h.0) (lit< tt)
range_some word r (inr (inl h)) = subst (λ (w : List ℕ). 0 < length w) (sym h.0.spelled) (decimal_nonempty r.least (omega (arith, h.0.within)))
range_some word r (inr (inr h)) = subst (λ (w : List ℕ). 0 < length w) (sym h.0) (omega (arith, length-append (decimal r.least) (45 ∷ decimal r.most)))

blank_avoids : (t : ℕ → Bool) → t 32 ≡ false → t 9 ≡ false → (c : ℕ) → ((c == 32) ≡ true) ⊎ ((c == 9) ≡ true) → t c ≡ false
blank_avoids t space tab c (inl h) = ap t (eqb-true c 32 h) ∙ space
blank_avoids t space tab c (inr h) = ap t (eqb-true c 9 h) ∙ tab

pub blanks_avoid : (t : ℕ → Bool) → t 32 ≡ false → t 9 ≡ false → (text : List ℕ) → AreBlanks text → list_any t text ≡ false
blanks_avoid t space tab [] h = refl
blanks_avoid t space tab (c ∷ cs) h =
    let p = and_parts (is_blank c) (list_all is_blank cs) h in
    or_from (t c) (list_any t cs) (blank_avoids t space tab c (or_cases (c == 32) (c == 9) p.0)) (blanks_avoid t space tab cs p.1)

-- the test holds for no byte of a member
pub record Spares (t : ℕ → Bool) : Type 0 where
  pub digit : NoDigit t
  pub dash : t 45 ≡ false
  pub dot : t 46 ≡ false
  pub space : t 32 ≡ false
  pub tab : t 9 ≡ false

pub append_avoids : (t : ℕ → Bool) (a b : List ℕ) → list_any t a ≡ false → list_any t b ≡ false → list_any t (a ++ b) ≡ false
append_avoids t a b p q = list_any-append t a b ∙ or_from (list_any t a) (list_any t b) p q

pub member_avoids : (t : ℕ → Bool) → Spares t → (text : List ℕ) (r : NumberRange) → SpellsMember text r → list_any t text ≡ false
member_avoids t s text r h =
    ap (λ (w : List ℕ). list_any t w) h.spelled
    ∙ append_avoids t h.before (h.word ++ h.behind) (blanks_avoid t s.space s.tab h.before h.blanks_before)
    (append_avoids t h.word h.behind (range_avoids t s.digit s.dash s.dot h.word r h.range) (blanks_avoid t s.space s.tab h.behind h.blanks_behind))

-- a test that holds for no byte of a member and no bar holds for no byte of a group's text
pub joined_avoids : (t : ℕ → Bool) → Spares t → t 124 ≡ false → (parts : List (List ℕ)) (ranges : List NumberRange) → Each SpellsMember parts ranges → list_any t (joined_by 124 parts) ≡ false
unfolding joined_by
joined_avoids t s bar [] rs h = refl
joined_avoids t s bar (p ∷ ps) [] h = absurd h
joined_avoids t s bar (p ∷ []) (r ∷ rs) h = member_avoids t s p r h.0
joined_avoids t s bar (p ∷ q ∷ ps) (r ∷ rs) h =
    append_avoids t p (124 ∷ joined_by 124 (q ∷ ps)) (member_avoids t s p r h.0)
    (or_from (t 124) (list_any t (joined_by 124 (q ∷ ps))) bar (joined_avoids t s bar (q ∷ ps) rs h.1))

-- ---- the place at which a test first holds

-- the test holds for the first byte, where there is one
abbrev pub stops : (ℕ → Bool) → List ℕ → Bool
stops t [] = true
stops t (c ∷ cs) = t c

-- behind a word without such a byte is the first place of one
pub place_behind : (t : ℕ → Bool) (word rest : List ℕ) → list_any t word ≡ false → stops t rest ≡ true → position_or_len t (word ++ rest) ≡ length word
place_behind t [] [] h stop = refl
place_behind t [] (c ∷ cs) h stop = ap (λ (b : Bool). cond (not b) (1 + position_or_len t cs) 0) stop
place_behind t (w ∷ ws) rest h stop =
    let p = or_parts (t w) (list_any t ws) h in
    ap (λ (b : Bool). cond (not b) (1 + position_or_len t (ws ++ rest)) 0) p.0
    ∙ ap (λ (n : ℕ). 1 + n) (place_behind t ws rest p.1 stop)
    ∙ omega arith
