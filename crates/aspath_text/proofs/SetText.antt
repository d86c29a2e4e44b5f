-- The text of a set of digit words, and of copies, as it is written from the front.
use Rattle.std.proofs.Common.{◌≡◌, refl, sym, ap, ◌∙◌, ℕ, zero, suc, ◌-◌, ◌<◌, List, [], ◌∷◌, ◌++◌, length, flat_map, codes, arith, append_assoc}
use Rattle.std.specs.List.{repeat as repeated}
use Rattle.aspath_text.specs.IosGrammar.{joined_by}
use Rattle.aspath_text.specs.IosText.{word_text, set_text}
use Rattle.path_patterns.specs.declared.pattern.DigitWord.{DigitWord}
use Rattle.aspath_text.proofs.JoinedLaws.{joined_behind}

pub no_text : set_text [] ≡ codes "()"
unfolding joined_by
no_text = refl

-- two or more words
group_of : (w v : DigitWord) (ws : List DigitWord) → set_text (w ∷ v ∷ ws) ≡ 40 ∷ (word_text w ++ (flat_map (λ w. 124 ∷ word_text w) (v ∷ ws) ++ (41 ∷ [])))
group_of w v ws =
    ap (λ (t : List ℕ). 40 ∷ (t ++ (41 ∷ []))) (joined_behind 124 word_text w (v ∷ ws))
    ∙ ap (λ (t : List ℕ). 40 ∷ t) (append_assoc (word_text w) (flat_map (λ (w : DigitWord). 124 ∷ word_text w) (v ∷ ws)) (41 ∷ []))

pub group_is : (w : DigitWord) (vs : List DigitWord) → 0 < length vs → set_text (w ∷ vs) ≡ 40 ∷ (word_text w ++ (flat_map (λ w. 124 ∷ word_text w) vs ++ (41 ∷ [])))
group_is w [] h = absurd (omega (arith, h))
group_is w (v ∷ ws) h = group_of w v ws

-- one copy in front of the others
repeated_more : (n : ℕ) (text : List ℕ) → 0 < n → repeated n text ≡ text ++ repeated (n - 1) text
repeated_more zero text h = absurd (omega (arith, h))
repeated_more (suc n) text h = let e : n ≡ suc n - 1 = omega arith in ap (λ (k : ℕ). text ++ repeated k text) e

-- a copy is written, and one fewer is left
pub one_fewer : (now before text whole : List ℕ) (n : ℕ) → now ≡ before ++ text → before ++ repeated n text ≡ whole → 0 < n → now ++ repeated (n - 1) text ≡ whole
one_fewer now before text whole n e h left =
    ap (λ (t : List ℕ). t ++ repeated (n - 1) text) e ∙ append_assoc before text (repeated (n - 1) text) ∙ ap (λ (t : List ℕ). before ++ t) (sym (repeated_more n text left)) ∙ h
