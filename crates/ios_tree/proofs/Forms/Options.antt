-- An option at the end of a line, both ways and as the program takes it.
use Rattle.std.proofs.Common.{◌≡◌, refl, sym, ap, ◌∙◌, ℕ, suc, ◌-◌, ◌≤◌, ◌<◌, Bool, true, false, List, [], ◌∷◌, ◌++◌, length, length-append, get_or, take, arith}
use Rattle.std.specs.Prelude.{bytes_eq}
use Rattle.std.proofs.lemmas.Slice.Eq.{bytes_eq-Decides}
use Rattle.text_words.specs.declared.statement.Word.{Word}
use Rattle.policy_text.specs.Phrases.{texts}
use Rattle.ios_tree.specs.Forms.{option_in}
use Rattle.ios_tree.specs.Spelling.{SpellOption}
use Rattle.policy_text.proofs.Phrases.{same_bytes}

-- the words are no others with the option behind them
abbrev HasNot : List ℕ → List (List ℕ) → Type 0
HasNot key ws = (first : List ℕ) (front : List (List ℕ)) → ws ≡ first ∷ (front ++ (key ∷ [])) → ⊥

-- the words before the option, and whether it is the last of two
abbrev of_two : Bool → List ℕ → List ℕ → List (List ℕ) × Bool
of_two t w v = elim t [ true ↦ (w ∷ [], true) | false ↦ (w ∷ v ∷ [], false) ]

same_tail : (a b : List ℕ) (xs ys : List (List ℕ)) → a ∷ xs ≡ b ∷ ys → (a ≡ b) × (xs ≡ ys)
same_tail a b xs ys e = (cc, cc)

-- too few words for an option behind another word
too_few : (ws : List (List ℕ)) (key first : List ℕ) (front : List (List ℕ)) → length ws ≤ 1 → ws ≡ first ∷ (front ++ (key ∷ [])) → ⊥
too_few ws key first front short e =
    let k : length ws ≡ suc (length (front ++ (key ∷ []))) = ap (λ (xs : List (List ℕ)). length xs) e in
    absurd (omega (arith, k, length-append front (key ∷ [])))

-- the last of two words is another one
last_other : (key w v first : List ℕ) (front : List (List ℕ)) → bytes_eq v key ≡ false → w ∷ v ∷ [] ≡ first ∷ (front ++ (key ∷ [])) → ⊥
last_other key w v first [] other e =
    let same = same_tail v key [] [] (same_tail w first (v ∷ []) (key ∷ []) e).1 in
    let k : bytes_eq v key ≡ true = (bytes_eq-Decides v key).1 same.0 in
    absurd cc
last_other key w v first (x ∷ xs) other e = too_few (v ∷ []) key x xs (omega arith) (same_tail w first (v ∷ []) (x ∷ (xs ++ (key ∷ []))) e).1

two_found : (t : Bool) (key w v : List ℕ) → bytes_eq v key ≡ t → SpellOption key (w ∷ v ∷ []) (of_two t w v).1 (of_two t w v).0
two_found true key w v t = ap (λ (x : List ℕ). w ∷ x ∷ []) (same_bytes v key t)
two_found false key w v t = (refl, λ first front e. last_other key w v first front t e)

longer : (key w : List ℕ) (ws : List (List ℕ)) → 2 ≤ length ws → HasNot key ws → HasNot key (w ∷ ws)
longer key w ws long h first [] e = let k = ap (λ (xs : List (List ℕ)). length xs) (same_tail w first ws (key ∷ []) e).1 in absurd (omega (arith, k))
longer key w ws long h first (x ∷ xs) e = h x xs (same_tail w first ws (x ∷ (xs ++ (key ∷ []))) e).1

-- one more word in front
more_found : (key w : List ℕ) (ws : List (List ℕ)) (words : List (List ℕ)) (t : Bool) → 2 ≤ length ws → SpellOption key ws t words → SpellOption key (w ∷ ws) t (w ∷ words)
more_found key w ws words true long h = ap (λ (x : List (List ℕ)). w ∷ x) h
more_found key w ws words false long h = (ap (λ (x : List (List ℕ)). w ∷ x) h.0, longer key w ws long h.1)

-- what is found is spelled
pub option_found : (key : List ℕ) (ws : List (List ℕ)) → SpellOption key ws (option_in key ws).1 (option_in key ws).0
option_found key [] = (refl, λ first front e. too_few [] key first front (omega arith) e)
option_found key (w ∷ []) = (refl, λ first front e. too_few (w ∷ []) key first front (omega arith) e)
option_found key (w ∷ v ∷ []) = two_found (bytes_eq v key) key w v refl
option_found key (w ∷ v ∷ u ∷ ws) = more_found key w (v ∷ u ∷ ws) (option_in key (v ∷ u ∷ ws)).0 (option_in key (v ∷ u ∷ ws)).1 (omega arith) (option_found key (v ∷ u ∷ ws))

-- ---- what is spelled is found

taken : (key : List ℕ) (words : List (List ℕ)) → 1 ≤ length words → option_in key (words ++ (key ∷ [])) ≡ (words, true)
taken key [] some = absurd (omega arith)
taken key (w ∷ []) some = rw ((bytes_eq-Decides key key).1 refl, option_in) refl
taken key (w ∷ v ∷ []) some = ap (λ (x : List (List ℕ) × Bool). (w ∷ x.0, x.1)) (taken key (v ∷ []) (omega arith))
taken key (w ∷ v ∷ u ∷ ws) some = ap (λ (x : List (List ℕ) × Bool). (w ∷ x.0, x.1)) (taken key (v ∷ u ∷ ws) (omega arith))

two_left : (t : Bool) (key w v : List ℕ) → bytes_eq v key ≡ t → HasNot key (w ∷ v ∷ []) → of_two t w v ≡ (w ∷ v ∷ [], false)
two_left true key w v t h = absurd (h w [] (ap (λ (x : List ℕ). w ∷ x ∷ []) (same_bytes v key t)))
two_left false key w v t h = refl

left : (key : List ℕ) (ws : List (List ℕ)) → HasNot key ws → option_in key ws ≡ (ws, false)
left key [] h = refl
left key (w ∷ []) h = refl
left key (w ∷ v ∷ []) h = two_left (bytes_eq v key) key w v refl h
left key (w ∷ v ∷ u ∷ ws) h =
    let behind : HasNot key (v ∷ u ∷ ws) = λ first front e. h w (first ∷ front) (ap (λ (x : List (List ℕ)). w ∷ x) e) in
    ap (λ (x : List (List ℕ) × Bool). (w ∷ x.0, x.1)) (left key (v ∷ u ∷ ws) behind)

pub option_spelled : (key : List ℕ) (ws words : List (List ℕ)) (t : Bool) → 1 ≤ length words → SpellOption key ws t words → option_in key ws ≡ (words, t)
option_spelled key ws words true some h = ap (λ (x : List (List ℕ)). option_in key x) h ∙ taken key words some
option_spelled key ws words false some h = left key ws h.1 ∙ ap (λ (x : List (List ℕ)). (x, false)) h.0

-- ---- as the program takes it

-- words whose last one stands behind another and isn't the option
pub option_left : (key : List ℕ) (ws : List Word) (last : Word) → 2 ≤ length ws → last ≡ get_or ws (length ws - 1) last → bytes_eq last.text key ≡ false
    → ◌≡◌ {A = List (List ℕ) × Bool} (texts ws, false) (option_in key (texts ws))
option_left key [] last h is e = absurd (omega arith)
option_left key (w ∷ []) last h is e = absurd (omega arith)
option_left key (w ∷ v ∷ []) last h is e = let other : bytes_eq v.text key ≡ false = ap (λ (x : Word). bytes_eq x.text key) (sym is) ∙ e in rw (other, option_in) refl
option_left key (w ∷ v ∷ u ∷ ws) last h is e =
    let k : length (w ∷ v ∷ u ∷ ws) - 1 ≡ suc (length (v ∷ u ∷ ws) - 1) = omega arith in
    let is' : last ≡ get_or (v ∷ u ∷ ws) (length (v ∷ u ∷ ws) - 1) last = rw k at is in
    ap (λ (x : List (List ℕ) × Bool). (w.text ∷ x.0, x.1)) (option_left key (v ∷ u ∷ ws) last (omega arith) is' e)

-- words whose last one stands behind another and is the option
pub option_taken : (key : List ℕ) (ws : List Word) (last : Word) → 2 ≤ length ws → last ≡ get_or ws (length ws - 1) last → bytes_eq last.text key ≡ true
    → ◌≡◌ {A = List (List ℕ) × Bool} (texts (take (length ws - 1) ws), true) (option_in key (texts ws))
option_taken key [] last h is e = absurd (omega arith)
option_taken key (w ∷ []) last h is e = absurd (omega arith)
option_taken key (w ∷ v ∷ []) last h is e = let same : bytes_eq v.text key ≡ true = ap (λ (x : Word). bytes_eq x.text key) (sym is) ∙ e in rw (same, option_in) refl
option_taken key (w ∷ v ∷ u ∷ ws) last h is e =
    let k : length (w ∷ v ∷ u ∷ ws) - 1 ≡ suc (length (v ∷ u ∷ ws) - 1) = omega arith in
    let is' : last ≡ get_or (v ∷ u ∷ ws) (length (v ∷ u ∷ ws) - 1) last = rw k at is in
    rw k (ap (λ (x : List (List ℕ) × Bool). (w.text ∷ x.0, x.1)) (option_taken key (v ∷ u ∷ ws) last (omega arith) is' e))

-- the option stands behind no word, or there is none
pub option_none : (key : List ℕ) (ws : List Word) → length ws < 2 → ◌≡◌ {A = List (List ℕ) × Bool} (texts ws, false) (option_in key (texts ws))
option_none key [] h = refl
option_none key (w ∷ []) h = refl
option_none key (w ∷ v ∷ ws) h = absurd (omega arith)
