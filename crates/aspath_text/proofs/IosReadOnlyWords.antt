-- The words, sets and tails that a text spells are found in it.
use Rattle.std.proofs.Common.{◌≡◌, refl, sym, ap, ◌∙◌, subst, ℕ, zero, suc, ◌+◌, ◌-◌, ◌^◌, ◌<◌, ◌≤◌, Bool, true, false, nat_le, ◌&&◌, ◌||◌, List, [], ◌∷◌, ◌++◌, length, append_assoc, Option, Some, None, arith, inl, inr, ◌⊎◌}
use Rattle.std.specs.Prelude.{◌==◌, codes, bytes_eq}
use Rattle.std.specs.Int.Bits.{bit_or}
use Rattle.std.specs.List.{concat, list_any}
use Rattle.std.proofs.lemmas.Bool.{le-leb, ne_eqb, or_from}
use Rattle.route_types.specs.RouteText.{Each}
use Rattle.route_types.specs.Words.{◌>>=◌, is_digit, when, parts_at}
use Rattle.route_types.proofs.Numbers.{some_is, when_true}
use Rattle.route_types.proofs.Spelled.{ap2, parts_at_behind}
use Rattle.aspath_text.specs.IosGrammar.{DigitRun, SpellsRun, SpellsClass, SpellsDigitSet, SpellsWord}
use Rattle.aspath_text.specs.IosRead.{run_in, runs_after, class_in, set_at, sets_in, digits_in, word_in}
use Rattle.path_patterns.specs.declared.pattern.DigitWord.{DigitWord}
use Rattle.path_patterns.specs.declared.pattern.DigitWord.TheVariants.{Any, Digits}
use Rattle.path_patterns.specs.declared.pattern.DigitSet.{DigitSet}
use Rattle.aspath_text.proofs.IosReadBits.{all_bits, run_bits, set_of_is}
use Rattle.path_patterns.proofs.Lists.{same_bytes}
use Rattle.aspath_text.proofs.IosReadShaped.{runs_are_digits}

-- ---- classes

-- no `-` stands first
abbrev NoDash : List ℕ → Type 0
NoDash [] = Unit {0}
NoDash (c ∷ cs) = (c == 45) ≡ false

other_byte : (b d : ℕ) → b ≤ 47 → (48 + d == b) ≡ false
other_byte b d h = ne_eqb (48 + d) b (λ (e : 48 + d ≡ b). omega (arith, e))

dash_by : (t rest : List ℕ) (r : DigitRun) → ((t ≡ (48 + r.least) ∷ []) × (r.most ≡ r.least)) ⊎ (t ≡ (48 + r.least) ∷ 45 ∷ (48 + r.most) ∷ []) → NoDash (t ++ rest)
dash_by t rest r (inl e) = subst (λ (x : List ℕ). NoDash (x ++ rest)) (sym e.0) (other_byte 45 r.least (omega arith))
dash_by t rest r (inr e) = subst (λ (x : List ℕ). NoDash (x ++ rest)) (sym e) (other_byte 45 r.least (omega arith))

run_no_dash : (t rest : List ℕ) (r : DigitRun) → SpellsRun t r → NoDash (t ++ rest)
run_no_dash t rest r h = dash_by t rest r h.spelled

runs_no_dash : (parts : List (List ℕ)) (runs : List DigitRun) → Each SpellsRun parts runs → NoDash (concat parts)
runs_no_dash [] runs h = tt
runs_no_dash (t ∷ ts) [] h = absurd h
runs_no_dash (t ∷ ts) (r ∷ rs) h = run_no_dash t (concat ts) r h.0

digit_test : (c : ℕ) → 48 ≤ c → c ≤ 57 → is_digit c ≡ true
digit_test c h k = rw (le-leb 48 c h, le-leb c 57 k) refl

run_found : (c e : ℕ) → 48 ≤ c → c ≤ e → e ≤ 57 → run_in c e ≡ Some (2 ^ (e - 48 + 1) - 2 ^ (c - 48))
run_found c e h k l =
    when_true (is_digit c && is_digit e && nat_le c e) (2 ^ (e - 48 + 1) - 2 ^ (c - 48))
    (rw (digit_test c h (omega (arith, k, l)), digit_test e (omega (arith, h, k)) l, le-leb c e k) refl)

-- the run of two digits' bytes
digits_run : (l m : ℕ) → l ≤ m → m ≤ 9 → run_in (48 + l) (48 + m) ≡ Some (2 ^ (m + 1) - 2 ^ l)
digits_run l m h k =
    let a : 48 + m - 48 ≡ m = omega arith in
    let b : 48 + l - 48 ≡ l = omega arith in
    run_found (48 + l) (48 + m) (omega arith) (omega (arith, h)) (omega (arith, k)) ∙ ap2 (λ (x y : ℕ). Some (2 ^ (x + 1) - 2 ^ y)) a b

alone : (v c m : ℕ) (rest : List ℕ) → NoDash rest → run_in c c ≡ Some m → runs_after v (c ∷ rest) ≡ runs_after (bit_or v m) rest
unfolding runs_after
alone v c m [] h e = rw e refl
alone v c m (d ∷ []) h e = rw e refl
alone v c m (d ∷ f ∷ cs) h e =
    ap (λ (x : Bool). elim x [ true ↦ run_in c f >>= λ r. runs_after (bit_or v r) cs | false ↦ run_in c c >>= λ r. runs_after (bit_or v r) (d ∷ f ∷ cs) ]) h
    ∙ ap (λ (o : Option ℕ). o >>= λ r. runs_after (bit_or v r) (d ∷ f ∷ cs)) e

paired : (v c e m : ℕ) (rest : List ℕ) → run_in c e ≡ Some m → runs_after v (c ∷ 45 ∷ e ∷ rest) ≡ runs_after (bit_or v m) rest
unfolding runs_after
paired v c e m rest k = rw k refl

run_only_by : (v : ℕ) (t rest : List ℕ) (r : DigitRun) → NoDash rest → r.least ≤ r.most → r.most ≤ 9 → ((t ≡ (48 + r.least) ∷ []) × (r.most ≡ r.least)) ⊎ (t ≡ (48 + r.least) ∷ 45 ∷ (48 + r.most) ∷ []) → runs_after v (t ++ rest) ≡ runs_after (bit_or v (run_bits r)) rest
run_only_by v t rest r dash h k (inl e) =
    let one : run_in (48 + r.least) (48 + r.least) ≡ Some (run_bits r) = ap (λ (m : ℕ). run_in (48 + r.least) (48 + m)) (sym e.1) ∙ digits_run r.least r.most h k in
    ap (λ (x : List ℕ). runs_after v (x ++ rest)) e.0 ∙ alone v (48 + r.least) (run_bits r) rest dash one
run_only_by v t rest r dash h k (inr e) =
    ap (λ (x : List ℕ). runs_after v (x ++ rest)) e ∙ paired v (48 + r.least) (48 + r.most) (run_bits r) rest (digits_run r.least r.most h k)

runs_end : (v : ℕ) → runs_after v [] ≡ Some v
unfolding runs_after
runs_end v = refl

runs_only : (v : ℕ) (parts : List (List ℕ)) (runs : List DigitRun) → Each SpellsRun parts runs → runs_after v (concat parts) ≡ Some (all_bits v runs)
runs_only v [] [] h = runs_end v
runs_only v [] (r ∷ rs) h = absurd h
runs_only v (t ∷ ts) [] h = absurd h
runs_only v (t ∷ ts) (r ∷ rs) h =
    run_only_by v t (concat ts) r (runs_no_dash ts rs h.1) h.0.rises h.0.digit h.0.spelled ∙ runs_only (bit_or v (run_bits r)) ts rs h.1

-- the text of runs isn't empty
class_of_runs : (text : List ℕ) (v : ℕ) → 0 < length text → runs_after 0 text ≡ Some v → class_in text ≡ Some (record { 0 = v })
class_of_runs [] v some e = absurd (omega (arith, some))
class_of_runs (c ∷ cs) v some e = rw e refl

run_some_by : (t rest : List ℕ) (r : DigitRun) → ((t ≡ (48 + r.least) ∷ []) × (r.most ≡ r.least)) ⊎ (t ≡ (48 + r.least) ∷ 45 ∷ (48 + r.most) ∷ []) → 0 < length (t ++ rest)
run_some_by t rest r (inl e) = subst (λ (x : List ℕ). 0 < length (x ++ rest)) (sym e.0) (omega arith)
run_some_by t rest r (inr e) = subst (λ (x : List ℕ). 0 < length (x ++ rest)) (sym e) (omega arith)

runs_some : (parts : List (List ℕ)) (runs : List DigitRun) → 1 ≤ length runs → Each SpellsRun parts runs → 0 < length (concat parts)
runs_some [] [] some h = absurd (omega (arith, some))
runs_some [] (r ∷ rs) some h = absurd h
runs_some (t ∷ ts) [] some h = absurd h
runs_some (t ∷ ts) (r ∷ rs) some h = run_some_by t (concat ts) r h.0.spelled

-- the set of a class is found in its brackets
pub class_only : (t : List ℕ) (s : DigitSet) (h : SpellsClass t s) → class_in (concat h.parts) ≡ Some s
class_only t s h =
    class_of_runs (concat h.parts) (all_bits 0 h.runs) (runs_some h.parts h.runs h.some h.each) (runs_only 0 h.parts h.runs h.each)
    ∙ ap (λ (x : ℕ). Some (record { 0 = x })) (set_of_is s h.runs (runs_are_digits h.parts h.runs h.each) h.is)

-- ---- digits and classes

no_bracket : (d : ℕ) → d ≤ 9 → (48 + d == 93) ≡ false
no_bracket d h = ne_eqb (48 + d) 93 (λ (e : 48 + d ≡ 93). omega (arith, e))

run_no_bracket : (t rest : List ℕ) (r : DigitRun) → list_any (λ c. c == 93) rest ≡ false → r.least ≤ r.most → r.most ≤ 9 → ((t ≡ (48 + r.least) ∷ []) × (r.most ≡ r.least)) ⊎ (t ≡ (48 + r.least) ∷ 45 ∷ (48 + r.most) ∷ []) → list_any (λ c. c == 93) (t ++ rest) ≡ false
run_no_bracket t rest r other h k (inl e) =
    subst (λ (x : List ℕ). list_any (λ c. c == 93) (x ++ rest) ≡ false) (sym e.0) (or_from (48 + r.least == 93) (list_any (λ c. c == 93) rest) (no_bracket r.least (omega (arith, h, k))) other)
run_no_bracket t rest r other h k (inr e) =
    subst (λ (x : List ℕ). list_any (λ c. c == 93) (x ++ rest) ≡ false) (sym e)
    (or_from (48 + r.least == 93) (48 + r.most == 93 || list_any (λ c. c == 93) rest) (no_bracket r.least (omega (arith, h, k))) (or_from (48 + r.most == 93) (list_any (λ c. c == 93) rest) (no_bracket r.most k) other))

runs_no_bracket : (parts : List (List ℕ)) (runs : List DigitRun) → Each SpellsRun parts runs → list_any (λ c. c == 93) (concat parts) ≡ false
runs_no_bracket [] runs h = refl
runs_no_bracket (t ∷ ts) [] h = absurd h
runs_no_bracket (t ∷ ts) (r ∷ rs) h = run_no_bracket t (concat ts) r (runs_no_bracket ts rs h.1) h.0.rises h.0.digit h.0.spelled

set_at_class : (inside rest : List ℕ) (s : DigitSet) → list_any (λ c. c == 93) inside ≡ false → class_in inside ≡ Some s → set_at (91 ∷ (inside ++ (93 ∷ rest))) ≡ Some (s, rest)
unfolding set_at
set_at_class inside rest s other e = rw (parts_at_behind 93 inside rest other, e) refl

set_at_digit : (d : ℕ) (rest : List ℕ) → d ≤ 9 → set_at ((48 + d) ∷ rest) ≡ Some (record { 0 = 2 ^ d }, rest)
unfolding set_at
set_at_digit d rest h =
    let a : 48 + d - 48 ≡ d = omega arith in
    ap (λ (x : Bool). elim x [ true ↦ parts_at 93 rest >>= λ parts. class_in parts.0 >>= λ s. Some (s, parts.1) | false ↦ when (is_digit (48 + d)) (record { 0 = 2 ^ (48 + d - 48) }, rest) ]) (ne_eqb (48 + d) 91 (λ (e : 48 + d ≡ 91). omega (arith, e)))
    ∙ when_true (is_digit (48 + d)) (record { 0 = 2 ^ (48 + d - 48) }, rest) (digit_test (48 + d) (omega arith) (omega (arith, h)))
    ∙ ap (λ (x : ℕ). Some (record { 0 = 2 ^ x }, rest)) a

-- the first digit or class is found
set_at_only : (t rest : List ℕ) (s : DigitSet) → SpellsDigitSet t s → set_at (t ++ rest) ≡ Some (s, rest)
set_at_only t rest s (inl h) =
    ap (λ (x : List ℕ). set_at (x ++ rest)) h.2 ∙ set_at_digit h.0 rest h.1 ∙ ap (λ (x : ℕ). Some (record { 0 = x }, rest)) (sym h.3)
set_at_only t rest s (inr h) =
    let is : t ++ rest ≡ 91 ∷ (concat h.parts ++ (93 ∷ rest)) = ap (λ (x : List ℕ). x ++ rest) h.spelled ∙ ap (λ (x : List ℕ). 91 ∷ x) (append_assoc (concat h.parts) (93 ∷ []) rest) in
    ap (λ (x : List ℕ). set_at x) is ∙ set_at_class (concat h.parts) rest s (runs_no_bracket h.parts h.runs h.each) (class_only t s h)

nothing_at : set_at [] ≡ None
unfolding set_at
nothing_at = refl

sets_step : (n : ℕ) (text rest : List ℕ) (s : DigitSet) (ss : List DigitSet) → set_at text ≡ Some (s, rest) → sets_in n rest ≡ Some ss → sets_in (suc n) text ≡ Some (s ∷ ss)
unfolding sets_in
sets_step n [] rest s ss e f = absurd (let k = nothing_at in cc)
sets_step n (c ∷ cs) rest s ss e f = rw (e, f) refl

sets_end : (n : ℕ) → sets_in n [] ≡ Some []
unfolding sets_in
sets_end zero = refl
sets_end (suc n) = refl

-- digits and classes are found
sets_only : (n : ℕ) (parts : List (List ℕ)) (ss : List DigitSet) → length ss ≤ n → Each SpellsDigitSet parts ss → sets_in n (concat parts) ≡ Some ss
sets_only n [] [] few h = sets_end n
sets_only n [] (s ∷ ss) few h = absurd h
sets_only n (t ∷ ts) [] few h = absurd h
sets_only zero (t ∷ ts) (s ∷ ss) few h = absurd (omega (arith, few))
sets_only (suc n) (t ∷ ts) (s ∷ ss) few h = sets_step n (t ++ concat ts) (concat ts) s ss (set_at_only t (concat ts) s h.0) (sets_only n ts ss (omega (arith, few)) h.1)

-- ---- words

any_is_no_digits : sets_in 10 (codes "[0-9]+") ≡ None
unfolding sets_in set_at runs_after parts_at
any_is_no_digits = refl

any_found : word_in (codes "[0-9]+") ≡ Some Any
unfolding word_in
any_found = refl

digits_only : (text : List ℕ) (ss : List DigitSet) → 1 ≤ length ss → sets_in 10 text ≡ Some ss → digits_in text ≡ Some (Digits ss)
digits_only [] ss some e = absurd (let k : [] ≡ ss = some_is [] ss (sym (sets_end 10) ∙ e) in omega (arith, some, ap (λ (x : List DigitSet). length x) k))
digits_only (c ∷ cs) ss some e = rw e refl

word_by : (t : Bool) (text : List ℕ) (ss : List DigitSet) → bytes_eq text (codes "[0-9]+") ≡ t → 1 ≤ length ss → sets_in 10 text ≡ Some ss → (elim t [ true ↦ Some Any | false ↦ digits_in text ]) ≡ Some (Digits ss)
word_by true text ss test some e = absurd (let k = any_is_no_digits in let l : sets_in 10 text ≡ sets_in 10 (codes "[0-9]+") = ap (λ (x : List ℕ). sets_in 10 x) (same_bytes text (codes "[0-9]+") test) in cc)
word_by false text ss test some e = digits_only text ss some e

digits_word : (text : List ℕ) (ss : List DigitSet) → 1 ≤ length ss → sets_in 10 text ≡ Some ss → word_in text ≡ Some (Digits ss)
unfolding word_in
digits_word text ss some e = word_by (bytes_eq text (codes "[0-9]+")) text ss refl some e

-- the word that a text spells is found
pub word_only : (t : List ℕ) (w : DigitWord) → SpellsWord t w → word_in t ≡ Some w
word_only t Any h = ap (λ (x : List ℕ). word_in x) h ∙ any_found
word_only t (Digits ss) h = digits_word t ss h.3 (ap (λ (x : List ℕ). sets_in 10 x) h.1 ∙ sets_only 10 h.0 ss h.4 h.2)
