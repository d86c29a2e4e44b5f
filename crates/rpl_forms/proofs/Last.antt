-- The last word, as the program takes it.
use Rattle.std.proofs.Common.{◌≡◌, refl, sym, ap, ◌∙◌, ℕ, suc, ◌-◌, ◌≤◌, ◌<◌, true, false, List, [], ◌∷◌, length, get_or, take, Option, Some, None, arith}
use Rattle.std.specs.Prelude.{option_map}
use Rattle.text_words.specs.declared.statement.Word.{Word}
use Rattle.rpl_words.specs.Tokens.{Token, token, tokens, is_key}
use Rattle.rpl_forms.specs.Statements.{before_last}

-- no word is the last
pub last_none : (key : List ℕ) (ws : List Word) → length ws < 1 → None ≡ before_last key (tokens ws)
unfolding before_last
last_none key [] h = refl
last_none key (w ∷ ws) h = absurd (omega (arith, h))

-- the last word is another one
pub last_other : (key : List ℕ) (ws : List Word) (last : Word) → 1 ≤ length ws → last ≡ get_or ws (length ws - 1) last → is_key key (token last) ≡ false → None ≡ before_last key (tokens ws)
unfolding before_last
last_other key [] last some is e = absurd (omega (arith, some))
last_other key (w ∷ []) last some is e = let k : is_key key (token w) ≡ false = ap (λ (x : Word). is_key key (token x)) (sym is) ∙ e in rw k refl
last_other key (w ∷ v ∷ ws) last some is e =
    let k : length (w ∷ v ∷ ws) - 1 ≡ suc (length (v ∷ ws) - 1) = omega arith in
    let is' : last ≡ get_or (v ∷ ws) (length (v ∷ ws) - 1) last = rw k at is in
    ap (λ (o : Option (List Token)). option_map (λ front. token w ∷ front) o) (last_other key (v ∷ ws) last (omega arith) is' e)

-- the last word is the keyword
pub last_taken : (key : List ℕ) (ws : List Word) (last : Word) → 1 ≤ length ws → last ≡ get_or ws (length ws - 1) last → is_key key (token last) ≡ true → Some (tokens (take (length ws - 1) ws)) ≡ before_last key (tokens ws)
unfolding before_last
last_taken key [] last some is e = absurd (omega (arith, some))
last_taken key (w ∷ []) last some is e = let k : is_key key (token w) ≡ true = ap (λ (x : Word). is_key key (token x)) (sym is) ∙ e in rw k refl
last_taken key (w ∷ v ∷ ws) last some is e =
    let k : length (w ∷ v ∷ ws) - 1 ≡ suc (length (v ∷ ws) - 1) = omega arith in
    let is' : last ≡ get_or (v ∷ ws) (length (v ∷ ws) - 1) last = rw k at is in
    rw k (ap (λ (o : Option (List Token)). option_map (λ front. token w ∷ front) o) (last_taken key (v ∷ ws) last (omega arith) is' e))
