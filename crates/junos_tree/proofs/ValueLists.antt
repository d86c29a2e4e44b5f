-- One value, or several in brackets: both ways, and as the program takes them.
use Rattle.std.proofs.Common.{◌≡◌, refl, sym, ap, ◌∙◌, ℕ, suc, ◌-◌, ◌≤◌, ◌<◌, Bool, true, false, List, [], ◌∷◌, ◌++◌, length, get_or, take, Option, Some, None, arith, inl, inr}
use Rattle.std.specs.Prelude.{codes, bytes_eq, option_map}
use Rattle.route_types.specs.Words.{◌>>=◌}
use Rattle.route_types.proofs.Numbers.{bind_found, some_is}
use Rattle.text_words.specs.declared.statement.Word.{Word}
use Rattle.policy_text.specs.Names.{first_some}
use Rattle.policy_text.specs.Phrases.{texts, Agrees, AreSome, behind, only, some_each}
use Rattle.policy_text.proofs.Agree.{one_agrees, some_agrees, behind_agrees}
use Rattle.policy_text.proofs.Phrases.{same_bytes, first_found, map_found}
use Rattle.junos_tree.specs.Forms.{before_bracket, bracketed_in, values_in}
use Rattle.junos_tree.specs.Spelling.{SpellValues}

-- ---- the words before a last `]`

last_found : (t : Bool) (w : List ℕ) (front : List (List ℕ)) → bytes_eq w (codes "]") ≡ t → ◌≡◌ {A = Option (List (List ℕ))} (elim t [ true ↦ Some [] | false ↦ None ]) (Some front) → w ∷ [] ≡ front ++ (codes "]" ∷ [])
last_found true w front t e =
    let none : front ≡ [] = sym (some_is [] front e) in
    let key = same_bytes w (codes "]") t in
    ap (λ (x : List ℕ). x ∷ []) key ∙ sym (ap (λ (xs : List (List ℕ)). xs ++ (codes "]" ∷ [])) none)
last_found false w front t e = absurd cc

before_found : (ws front : List (List ℕ)) → before_bracket ws ≡ Some front → ws ≡ front ++ (codes "]" ∷ [])
before_found [] front e = absurd cc
before_found (w ∷ []) front e = last_found (bytes_eq w (codes "]")) w front refl e
before_found (w ∷ v ∷ ws) front e =
    let more = bind_found (before_bracket (v ∷ ws)) (λ xs. Some (w ∷ xs)) front e in
    ap (λ (xs : List (List ℕ)). w ∷ xs) (before_found (v ∷ ws) more.0 more.1) ∙ ap (λ (xs : List (List ℕ)). xs ++ (codes "]" ∷ [])) (some_is (w ∷ more.0) front more.2)

before_only : (front : List (List ℕ)) → before_bracket (front ++ (codes "]" ∷ [])) ≡ Some front
before_only [] = refl
before_only (w ∷ []) = refl
before_only (w ∷ v ∷ ws) = ap (λ (o : Option (List (List ℕ))). o >>= λ xs. Some (w ∷ xs)) (before_only (v ∷ ws))

-- ---- values

-- one or more values before a last `]`
abbrev Bracketed : {A : Type 0} → (List ℕ → A → Type 0) → List (List ℕ) → List A → Type 0
Bracketed P ws xs = (inner : List (List ℕ)) × (ws ≡ inner ++ (codes "]" ∷ [])) × AreSome P inner xs

bracketed_agree : {A : Type 0} (f : List ℕ → Option A) (P : List ℕ → A → Type 0) → Agrees f P → Agrees (bracketed_in f) (Bracketed P)
bracketed_agree f P a = record {
  found = λ ws xs e.
      let inner = bind_found (before_bracket ws) (some_each f) xs e in
      (inner.0, before_found ws inner.0 inner.1, (some_agrees f P a).found inner.0 xs inner.2);
  only = λ ws xs h. ap (λ (vs : List (List ℕ)). before_bracket vs >>= some_each f) h.1 ∙ ap (λ (o : Option (List (List ℕ))). o >>= some_each f) (before_only h.0) ∙ (some_agrees f P a).only h.0 xs h.2;
}

one_found : {A : Type 0} (f : List ℕ → Option A) (P : List ℕ → A → Type 0) → Agrees f P → (ws : List (List ℕ)) (xs : List A) → option_map (λ x. x ∷ []) (only f ws) ≡ Some xs → SpellValues P ws xs
one_found f P a ws xs e = let x = map_found (only f ws) (λ y. y ∷ []) xs e in inl (x.0, sym x.2, (one_agrees f P a).found ws x.0 x.1)

several_found : {A : Type 0} (f : List ℕ → Option A) (P : List ℕ → A → Type 0) → Agrees f P → (ws : List (List ℕ)) (xs : List A) → behind (codes "[" ∷ []) (bracketed_in f) ws ≡ Some xs → SpellValues P ws xs
several_found f P a ws xs e =
    let h = (behind_agrees (codes "[" ∷ []) (bracketed_in f) (Bracketed P) (bracketed_agree f P a)).found ws xs e in
    inr (h.2.0, h.1 ∙ ap (λ (vs : List (List ℕ)). codes "[" ∷ vs) h.2.1, h.2.2)

-- words in brackets are more than one
not_one : {A : Type 0} (f : List ℕ → Option A) (w : List ℕ) (inner : List (List ℕ)) → only f (w ∷ (inner ++ (codes "]" ∷ []))) ≡ None
not_one f w [] = refl
not_one f w (v ∷ vs) = refl

values_only : {A : Type 0} (f : List ℕ → Option A) (P : List ℕ → A → Type 0) → Agrees f P → (ws : List (List ℕ)) (xs : List A) → SpellValues P ws xs → values_in f ws ≡ Some xs
unfolding values_in
values_only {A} f P a ws xs (inl (x, e, h)) =
    ap (λ (o : Option A). first_some (option_map (λ y. y ∷ []) o) (behind (codes "[" ∷ []) (bracketed_in f) ws)) ((one_agrees f P a).only ws x h) ∙ ap (λ (ys : List A). Some ys) (sym e)
values_only {A} f P a ws xs (inr (inner, e, h)) =
    let text = codes "[" ∷ (inner ++ (codes "]" ∷ [])) in
    ap (λ (vs : List (List ℕ)). first_some (option_map (λ y. y ∷ []) (only f vs)) (behind (codes "[" ∷ []) (bracketed_in f) vs)) e
    ∙ ap (λ (o : Option A). first_some (option_map (λ y. y ∷ []) o) (behind (codes "[" ∷ []) (bracketed_in f) text)) (not_one f (codes "[") inner)
    ∙ (behind_agrees (codes "[" ∷ []) (bracketed_in f) (Bracketed P) (bracketed_agree f P a)).only text xs (inner ++ (codes "]" ∷ []), refl, (inner, refl, h))

values_found : {A : Type 0} (f : List ℕ → Option A) (P : List ℕ → A → Type 0) → Agrees f P → (ws : List (List ℕ)) (xs : List A) → values_in f ws ≡ Some xs → SpellValues P ws xs
unfolding values_in
values_found f P a ws xs e = first_found _ _ xs (SpellValues P ws xs) (one_found f P a ws xs) (several_found f P a ws xs) e

pub values_agree : {A : Type 0} (f : List ℕ → Option A) (P : List ℕ → A → Type 0) → Agrees f P → Agrees (values_in f) (SpellValues P)
values_agree f P a = record { found = values_found f P a; only = values_only f P a }

-- ---- as the program takes them

-- there is no last word
pub no_words : (ws : List Word) → length ws < 1 → None ≡ before_bracket (texts ws)
no_words [] h = refl
no_words (w ∷ ws) h = absurd (omega arith)

-- the last word is `]`
pub bracket_last : (ws : List Word) (last : Word) → 1 ≤ length ws → last ≡ get_or ws (length ws - 1) last → bytes_eq last.text (codes "]") ≡ true → Some (texts (take (length ws - 1) ws)) ≡ before_bracket (texts ws)
bracket_last [] last h is e = absurd (omega arith)
bracket_last (w ∷ []) last h is e = let same : bytes_eq w.text (codes "]") ≡ true = ap (λ (x : Word). bytes_eq x.text (codes "]")) (sym is) ∙ e in rw (same, before_bracket) refl
bracket_last (w ∷ v ∷ ws) last h is e =
    let k : length (w ∷ v ∷ ws) - 1 ≡ suc (length (v ∷ ws) - 1) = omega arith in
    let is' : last ≡ get_or (v ∷ ws) (length (v ∷ ws) - 1) last = rw k at is in
    rw k (ap (λ (o : Option (List (List ℕ))). o >>= λ xs. Some (w.text ∷ xs)) (bracket_last (v ∷ ws) last (omega arith) is' e))

-- the last word is another one
pub other_last : (ws : List Word) (last : Word) → 1 ≤ length ws → last ≡ get_or ws (length ws - 1) last → bytes_eq last.text (codes "]") ≡ false → None ≡ before_bracket (texts ws)
other_last [] last h is e = absurd (omega arith)
other_last (w ∷ []) last h is e = let other : bytes_eq w.text (codes "]") ≡ false = ap (λ (x : Word). bytes_eq x.text (codes "]")) (sym is) ∙ e in rw (other, before_bracket) refl
other_last (w ∷ v ∷ ws) last h is e =
    let k : length (w ∷ v ∷ ws) - 1 ≡ suc (length (v ∷ ws) - 1) = omega arith in
    let is' : last ≡ get_or (v ∷ ws) (length (v ∷ ws) - 1) last = rw k at is in
    ap (λ (o : Option (List (List ℕ))). o >>= λ xs. Some (w.text ∷ xs)) (other_last (v ∷ ws) last (omega arith) is' e)
