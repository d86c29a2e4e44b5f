-- The words, sets and tails that are found in a text are spelled by it.
use Rattle.std.proofs.Common.{◌≡◌, refl, sym, ap, ◌∙◌, subst, ℕ, zero, suc, ◌+◌, ◌-◌, ◌^◌, ◌≤◌, Bool, true, false, List, [], ◌∷◌, ◌++◌, length, append_assoc, Some, None, arith, inl, inr}
use Rattle.std.specs.Prelude.{◌==◌, codes, bytes_eq}
use Rattle.std.specs.List.{concat}
use Rattle.std.proofs.lemmas.Bool.{eqb-true}
use Rattle.route_types.specs.RouteText.{Each}
use Rattle.route_types.specs.Words.{◌>>=◌, is_digit, when, parts_at}
use Rattle.route_types.proofs.Numbers.{bind_found, some_is, digit_range}
use Rattle.route_types.proofs.Spelled.{ap2, parts_at_found}
use Rattle.policy_text.proofs.Phrases.{each_found, when_found}
use Rattle.path_patterns.proofs.Lists.{same_bytes}
use Rattle.aspath_text.specs.IosGrammar.{SpellsDigitSet, SpellsWord, SpellsSet, SpellsTail, repeat_sign}
use Rattle.aspath_text.specs.IosRead.{parts_by, cut_at, class_in, set_at, sets_in, digits_in, word_in, grouped, lone, set_in, repeat_in, repeated, tail_in}
use Rattle.path_patterns.specs.declared.pattern.DigitWord.{DigitWord}
use Rattle.path_patterns.specs.declared.pattern.DigitWord.TheVariants.{Any, Digits}
use Rattle.path_patterns.specs.declared.pattern.DigitSet.{DigitSet}
use Rattle.path_patterns.specs.declared.pattern.Tail.{Tail}
use Rattle.path_patterns.specs.declared.pattern.Repeat.{Repeat}
use Rattle.path_patterns.specs.declared.pattern.Repeat.TheVariants.{Star, Plus, Maybe}
use Rattle.aspath_text.proofs.IosReadCuts.{parts_split}
use Rattle.aspath_text.proofs.IosReadFound.{joined_parts, cut_found, class_found, some_parts}

-- ---- digits and classes

-- the first digit or class that is found in a text
record SetFound (text : List ℕ) (s : DigitSet) (rest : List ℕ) : Type 0 where
  own : List ℕ
  spelled : text ≡ own ++ rest
  is : SpellsDigitSet own s

set_at_case : (t : Bool) (c : ℕ) (cs : List ℕ) (p : DigitSet × List ℕ) → (c == 91) ≡ t → (elim t [ true ↦ parts_at 93 cs >>= λ parts. class_in parts.0 >>= λ s. Some (s, parts.1) | false ↦ when (is_digit c) (record { 0 = 2 ^ (c - 48) }, cs) ]) ≡ Some p → SetFound (c ∷ cs) p.0 p.1
set_at_case true c cs p test e =
    let parts = bind_found (parts_at 93 cs) _ p e in
    let s = bind_found (class_in parts.0.0) _ p parts.2 in
    let cut = parts_at_found 93 cs parts.0 parts.1 in
    subst (λ (q : DigitSet × List ℕ). SetFound (c ∷ cs) q.0 q.1) (some_is (s.0, parts.0.1) p s.2)
    (record {
      own = 91 ∷ (parts.0.0 ++ (93 ∷ []));
      spelled = ap2 (λ (x : ℕ) (xs : List ℕ). x ∷ xs) (eqb-true c 91 test) (cut ∙ sym (append_assoc parts.0.0 (93 ∷ []) parts.0.1));
      is = inr (class_found parts.0.0 s.0 s.1);
    })
set_at_case false c cs p test e =
    let k = when_found (is_digit c) (record { 0 = 2 ^ (c - 48) }, cs) p e in
    let d = digit_range c k.0 in
    let is : c ≡ 48 + (c - 48) = omega (arith, d.0) in
    subst (λ (q : DigitSet × List ℕ). SetFound (c ∷ cs) q.0 q.1) k.1
    (record { own = c ∷ []; spelled = refl; is = inl (c - 48, omega (arith, d.1), ap (λ (x : ℕ). x ∷ []) is, refl) })

set_at_found : (text : List ℕ) (p : DigitSet × List ℕ) → set_at text ≡ Some p → SetFound text p.0 p.1
unfolding set_at
set_at_found [] p e = absurd cc
set_at_found (c ∷ cs) p e = set_at_case (c == 91) c cs p refl e

-- the digits and classes that are found in a text
record SetsFound (n : ℕ) (text : List ℕ) (ss : List DigitSet) : Type 0 where
  parts : List (List ℕ)
  spelled : text ≡ concat parts
  each : Each SpellsDigitSet parts ss
  few : length ss ≤ n

none_found : (n : ℕ) (ss : List DigitSet) → [] ≡ ss → SetsFound n [] ss
none_found n ss e = subst (λ (x : List DigitSet). SetsFound n [] x) e (record { parts = []; spelled = refl; each = tt; few = omega arith })

one_more : (n : ℕ) (text rest : List ℕ) (s : DigitSet) (ss all : List DigitSet) → SetFound text s rest → SetsFound n rest ss → s ∷ ss ≡ all → SetsFound (suc n) text all
one_more n text rest s ss all f g e =
    subst (λ (x : List DigitSet). SetsFound (suc n) text x) e
    (record {
      parts = f.own ∷ g.parts;
      spelled = f.spelled ∙ ap (λ (x : List ℕ). f.own ++ x) g.spelled;
      each = (f.is, g.each);
      few = omega (arith, g.few);
    })

sets_found : (n : ℕ) (text : List ℕ) (ss : List DigitSet) → sets_in n text ≡ Some ss → SetsFound n text ss
unfolding sets_in
sets_found zero [] ss e = none_found zero ss (some_is [] ss e)
sets_found zero (c ∷ cs) ss e = absurd cc
sets_found (suc n) [] ss e = none_found (suc n) ss (some_is [] ss e)
sets_found (suc n) (c ∷ cs) ss e =
    let r = bind_found (set_at (c ∷ cs)) _ ss e in
    let more = bind_found (sets_in n r.0.1) _ ss r.2 in
    one_more n (c ∷ cs) r.0.1 r.0.0 more.0 ss (set_at_found (c ∷ cs) r.0 r.1) (sets_found n r.0.1 more.0 more.1) (some_is (r.0.0 ∷ more.0) ss more.2)

-- ---- words and sets

digits_found : (text : List ℕ) (w : DigitWord) → digits_in text ≡ Some w → SpellsWord text w
digits_found [] w e = absurd cc
digits_found (c ∷ cs) w e =
    let ss = bind_found (sets_in 10 (c ∷ cs)) _ w e in
    let f = sets_found 10 (c ∷ cs) ss.0 ss.1 in
    subst (λ (x : DigitWord). SpellsWord (c ∷ cs) x) (some_is (Digits ss.0) w ss.2) (f.parts, f.spelled, f.each, some_parts SpellsDigitSet f.parts ss.0 c cs f.spelled f.each, f.few)

word_case : (t : Bool) (text : List ℕ) (w : DigitWord) → bytes_eq text (codes "[0-9]+") ≡ t → (elim t [ true ↦ Some Any | false ↦ digits_in text ]) ≡ Some w → SpellsWord text w
word_case true text w test e = subst (λ (x : DigitWord). SpellsWord text x) (some_is Any w e) (same_bytes text (codes "[0-9]+") test)
word_case false text w test e = digits_found text w e

pub word_found : (text : List ℕ) (w : DigitWord) → word_in text ≡ Some w → SpellsWord text w
unfolding word_in
word_found text w e = word_case (bytes_eq text (codes "[0-9]+")) text w refl e

-- there are as many values as parts
pub many : {A : Type 0} (P : List ℕ → A → Type 0) (parts : List (List ℕ)) (xs : List A) (t : List ℕ) (ts : List (List ℕ)) → parts ≡ t ∷ ts → Each P parts xs → 1 ≤ length xs
many P [] xs t ts e h = absurd cc
many P (p ∷ ps) [] t ts e h = absurd h
many P (p ∷ ps) (x ∷ xs) t ts e h = omega arith

group_found : (inside behind : List ℕ) (ws : List DigitWord) → grouped inside behind ≡ Some ws → SpellsSet (40 ∷ (inside ++ (41 ∷ behind))) ws
group_found inside (c ∷ cs) ws e = absurd cc
group_found inside [] ws e =
    let parts = parts_by 124 0 inside in
    let are : Each SpellsWord parts ws = each_found word_in SpellsWord word_found parts ws e in
    inr (parts, ap (λ (t : List ℕ). 40 ∷ (t ++ (41 ∷ []))) (sym (joined_parts 124 0 inside)), are, many SpellsWord parts ws _ _ (parts_split 124 0 inside) are)

lone_found : (text : List ℕ) (ws : List DigitWord) → lone text ≡ Some ws → SpellsSet text ws
lone_found text ws e =
    let w = bind_found (word_in text) _ ws e in
    inl (w.0, sym (some_is (w.0 ∷ []) ws w.2), word_found text w.0 w.1)

set_case : (t : Bool) (c : ℕ) (cs : List ℕ) (ws : List DigitWord) → (c == 40) ≡ t → (elim t [ true ↦ cut_at 41 0 cs >>= λ parts. grouped parts.0 parts.1 | false ↦ lone (c ∷ cs) ]) ≡ Some ws → SpellsSet (c ∷ cs) ws
set_case true c cs ws test e =
    let parts = bind_found (cut_at 41 0 cs) _ ws e in
    let is : 40 ∷ (parts.0.0 ++ (41 ∷ parts.0.1)) ≡ c ∷ cs = ap2 (λ (x : ℕ) (xs : List ℕ). x ∷ xs) (sym (eqb-true c 40 test)) (sym (cut_found 41 0 cs parts.0 parts.1)) in
    subst (λ (t : List ℕ). SpellsSet t ws) is (group_found parts.0.0 parts.0.1 ws parts.2)
set_case false c cs ws test e = lone_found (c ∷ cs) ws e

pub set_found : (text : List ℕ) (ws : List DigitWord) → set_in text ≡ Some ws → SpellsSet text ws
unfolding set_in
set_found [] ws e = absurd cc
set_found (c ∷ cs) ws e = set_case (c == 40) c cs ws refl e

-- ---- tails

sign_case : (t u v : Bool) (c : ℕ) (r : Repeat) → (c == 42) ≡ t → (c == 43) ≡ u → (c == 63) ≡ v → (elim t [ true ↦ Some Star | false ↦ elim u [ true ↦ Some Plus | false ↦ when v Maybe ] ]) ≡ Some r → c ≡ repeat_sign r
sign_case true u v c r e f g h = subst (λ (x : Repeat). c ≡ repeat_sign x) (some_is Star r h) (eqb-true c 42 e)
sign_case false true v c r e f g h = subst (λ (x : Repeat). c ≡ repeat_sign x) (some_is Plus r h) (eqb-true c 43 f)
sign_case false false true c r e f g h = subst (λ (x : Repeat). c ≡ repeat_sign x) (some_is Maybe r h) (eqb-true c 63 g)
sign_case false false false c r e f g h = absurd cc

repeat_found : (sign : List ℕ) (r : Repeat) → repeat_in sign ≡ Some r → sign ≡ repeat_sign r ∷ []
repeat_found [] r e = absurd cc
repeat_found (c ∷ []) r e = ap (λ (x : ℕ). x ∷ []) (sign_case (c == 42) (c == 43) (c == 63) c r refl refl refl e)
repeat_found (c ∷ d ∷ cs) r e = absurd cc

repeated_found : (set sign : List ℕ) (t : Tail) → repeated set sign ≡ Some t → SpellsTail (40 ∷ 95 ∷ (set ++ (41 ∷ sign))) t
repeated_found set sign t e =
    let ws = bind_found (set_in set) _ t e in
    let r = bind_found (repeat_in sign) _ t ws.2 in
    subst (λ (x : Tail). SpellsTail (40 ∷ 95 ∷ (set ++ (41 ∷ sign))) x) (some_is (record { words = ws.0; repeat = r.0 }) t r.2)
    (set, ap (λ (x : List ℕ). 40 ∷ 95 ∷ (set ++ (41 ∷ x))) (repeat_found sign r.0 r.1), set_found set ws.0 ws.1)

tail_case : (u : Bool) (c : ℕ) (cs : List ℕ) (t : Tail) → (c == 95) ≡ u → (elim u [ true ↦ cut_at 41 0 cs >>= λ parts. repeated parts.0 parts.1 | false ↦ None ]) ≡ Some t → SpellsTail (40 ∷ c ∷ cs) t
tail_case true c cs t test e =
    let parts = bind_found (cut_at 41 0 cs) _ t e in
    let is : 40 ∷ 95 ∷ (parts.0.0 ++ (41 ∷ parts.0.1)) ≡ 40 ∷ c ∷ cs = ap2 (λ (x : ℕ) (xs : List ℕ). 40 ∷ x ∷ xs) (sym (eqb-true c 95 test)) (sym (cut_found 41 0 cs parts.0 parts.1)) in
    subst (λ (x : List ℕ). SpellsTail x t) is (repeated_found parts.0.0 parts.0.1 t parts.2)
tail_case false c cs t test e = absurd cc

pub tail_found : (text : List ℕ) (t : Tail) → tail_in text ≡ Some t → SpellsTail (40 ∷ text) t
unfolding tail_in
tail_found [] t e = absurd cc
tail_found (c ∷ cs) t e = tail_case (c == 95) c cs t refl e
