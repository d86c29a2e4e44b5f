-- What stands between two spaces of a word, and the numbers that stand there.
use Rattle.std.proofs.Common.{◌≡◌, refl, sym, ap, ◌∙◌, subst, ℕ, ◌-◌, ◌^◌, ◌≤◌, Bool, true, false, List, [], ◌∷◌, ◌++◌, length, Option, Some, None, arith, lit<}
use Rattle.std.specs.Prelude.{◌==◌}
use Rattle.std.specs.List.{list_any}
use Rattle.std.proofs.lemmas.Bool.{eqb-true}
use Rattle.route_types.specs.RouteText.{onto_word}
use Rattle.route_types.specs.Words.{number_in, parts_at, IsNumber}
use Rattle.route_types.proofs.Numbers.{some_is, bind_found, decimal_no_such_byte}
use Rattle.route_types.proofs.Spelled.{parts_at_behind}
use Rattle.aspath_text.specs.IosGrammar.{joined_by}
use Rattle.aspath_text.proofs.JunosCut.{parts_step, texts_step}
use Rattle.aspath_text.proofs.JunosWords.{parts_none}
use Rattle.policy_text.specs.Phrases.{Agrees, AreSome, Each, each_onto, some_each}
use Rattle.policy_text.proofs.Agree.{some_agrees}
use Rattle.policy_text.proofs.Phrases.{each_by_walk}
use Rattle.policy_text.proofs.Values.{number_agrees}
use Rattle.junos_tree.specs.Words.{between_spaces, prepended_in, ArePrepended}

-- ---- the first space

space_test : (t : Bool) (c : ℕ) (cs : List ℕ) (o : Option (List ℕ × List ℕ)) (p : List ℕ × List ℕ) → ((q : List ℕ × List ℕ) → o ≡ Some q → between_spaces cs ≡ q.0 ∷ between_spaces q.1) → parts_step t c cs o ≡ Some p → texts_step t c (between_spaces cs) ≡ p.0 ∷ between_spaces p.1
space_test true c cs o p more e = subst (λ (q : List ℕ × List ℕ). [] ∷ between_spaces cs ≡ q.0 ∷ between_spaces q.1) (some_is ([], cs) p e) refl
space_test false c cs o p more e =
    let f = bind_found o (λ q. Some (c ∷ q.0, q.1)) p e in
    subst (λ (q : List ℕ × List ℕ). onto_word c (between_spaces cs) ≡ q.0 ∷ between_spaces q.1) (some_is (c ∷ f.0.0, f.0.1) p f.2) (ap (λ (ws : List (List ℕ)). onto_word c ws) (more f.0 f.1))

-- a space parts the first word from the others
pub space_parts : (text : List ℕ) (p : List ℕ × List ℕ) → parts_at 32 text ≡ Some p → between_spaces text ≡ p.0 ∷ between_spaces p.1
unfolding parts_at between_spaces
space_parts [] p e = absurd cc
space_parts (c ∷ cs) p e = space_test (c == 32) c cs (parts_at 32 cs) p (space_parts cs) e

alone_test : (t : Bool) (c : ℕ) (cs : List ℕ) (o : Option (List ℕ × List ℕ)) → (o ≡ None → between_spaces cs ≡ cs ∷ []) → parts_step t c cs o ≡ None → texts_step t c (between_spaces cs) ≡ (c ∷ cs) ∷ []
alone_test true c cs o more e = absurd cc
alone_test false c cs None more e = ap (λ (ws : List (List ℕ)). onto_word c ws) (more refl)
alone_test false c cs (Some q) more e = absurd cc

-- a text without a space is one word
pub without_space : (text : List ℕ) → parts_at 32 text ≡ None → between_spaces text ≡ text ∷ []
unfolding parts_at between_spaces
without_space [] e = refl
without_space (c ∷ cs) e = alone_test (c == 32) c cs (parts_at 32 cs) (without_space cs) e

-- ---- joined again

joined_test : (t : Bool) (c : ℕ) (cs : List ℕ) (ws : List (List ℕ)) → (c == 32) ≡ t → 1 ≤ length ws → joined_by 32 ws ≡ cs → joined_by 32 (texts_step t c ws) ≡ c ∷ cs
unfolding joined_by
joined_test t c cs [] is some e = absurd (omega (arith, some))
joined_test true c cs (w ∷ ws) is some e = let space : c ≡ 32 = eqb-true c 32 is in λ i. sym space i ∷ e i
joined_test false c cs (w ∷ []) is some e = ap (λ (x : List ℕ). c ∷ x) e
joined_test false c cs (w ∷ v ∷ ws) is some e = ap (λ (x : List ℕ). c ∷ x) e

some_test : (t : Bool) (c : ℕ) (ws : List (List ℕ)) → 1 ≤ length (texts_step t c ws)
some_test true c ws = omega arith
some_test false c [] = omega arith
some_test false c (w ∷ ws) = omega arith

some_words : (text : List ℕ) → 1 ≤ length (between_spaces text)
unfolding between_spaces
some_words [] = omega arith
some_words (c ∷ cs) = some_test (c == 32) c (between_spaces cs)

joined_again : (text : List ℕ) → joined_by 32 (between_spaces text) ≡ text
unfolding between_spaces joined_by
joined_again [] = refl
joined_again (c ∷ cs) = joined_test (c == 32) c cs (between_spaces cs) refl (some_words cs) (joined_again cs)

-- ---- numbers

-- no space stands in a number
no_space : (word : List ℕ) (n : ℕ) → IsNumber (2 ^ 32 - 1) word n → list_any (λ c. c == 32) word ≡ false
no_space word n h = ap (λ (x : List ℕ). list_any (λ c. c == 32) x) h.spelled ∙ decimal_no_such_byte 32 n refl (omega (arith, h.within))

-- numbers joined by spaces are parted again
numbers_parted : (words : List (List ℕ)) (ns : List ℕ) → 1 ≤ length words → Each (IsNumber (2 ^ 32 - 1)) words ns → between_spaces (joined_by 32 words) ≡ words
unfolding joined_by
numbers_parted [] ns some h = absurd (omega (arith, some))
numbers_parted (w ∷ ws) [] some h = absurd h
numbers_parted (w ∷ []) (n ∷ ns) some h = without_space w (parts_none 32 w (no_space w n h.0))
numbers_parted (w ∷ v ∷ ws) (n ∷ ns) some h =
    space_parts (w ++ (32 ∷ joined_by 32 (v ∷ ws))) (w, joined_by 32 (v ∷ ws)) (parts_at_behind 32 w (joined_by 32 (v ∷ ws)) (no_space w n h.0))
    ∙ ap (λ (xs : List (List ℕ)). w ∷ xs) (numbers_parted (v ∷ ws) ns (omega arith) h.1)

numbers_agree : Agrees (some_each (number_in (2 ^ 32 - 1))) (AreSome (IsNumber (2 ^ 32 - 1)))
numbers_agree = some_agrees _ _ (number_agrees (2 ^ 32 - 1) (lit< tt))

pub prepended_agree : Agrees prepended_in ArePrepended
unfolding prepended_in
prepended_agree = record {
  found = λ w ns e. record { words = between_spaces w; spelled = sym (joined_again w); numbers = numbers_agree.found (between_spaces w) ns e };
  only = λ w ns h.
      ap (λ (x : List ℕ). some_each (number_in (2 ^ 32 - 1)) (between_spaces x)) h.spelled
      ∙ ap (λ (ws : List (List ℕ)). some_each (number_in (2 ^ 32 - 1)) ws) (numbers_parted h.words ns h.numbers.some h.numbers.each)
      ∙ numbers_agree.only h.words ns h.numbers;
}

-- ---- as the program takes it

by_walk : (ws : List (List ℕ)) → 1 ≤ length ws → each_onto (number_in (2 ^ 32 - 1)) [] ws ≡ some_each (number_in (2 ^ 32 - 1)) ws
by_walk [] some = absurd (omega (arith, some))
by_walk (w ∷ ws) some = each_by_walk (number_in (2 ^ 32 - 1)) (w ∷ ws)

-- the walk over the words gives the numbers
pub prepended_by_walk : (word : List ℕ) → each_onto (number_in (2 ^ 32 - 1)) [] (between_spaces word) ≡ prepended_in word
unfolding prepended_in
prepended_by_walk word = by_walk (between_spaces word) (some_words word)
