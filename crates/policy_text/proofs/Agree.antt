-- The phrases of forms agree with what they spell, where their parts do.
use Rattle.std.proofs.Common.{◌≡◌, refl, sym, ap, ◌∙◌, subst, ℕ, Bool, true, false, List, [], ◌∷◌, Option, Some, None, arith, inl, inr}
use Rattle.std.specs.Prelude.{bytes_eq, option_map, not}
use Rattle.std.specs.List.{list_all}
use Rattle.std.proofs.lemmas.Bool.{and_parts, not-true}
use Rattle.std.proofs.lemmas.Slice.Eq.{bytes_eq-Decides}
use Rattle.route_types.specs.Words.{◌>>=◌}
use Rattle.route_types.proofs.Numbers.{some_is, bind_found}
use Rattle.policy_text.specs.Phrases.{Agrees, Behind, One, First, Optional, AreSome, IsOneOf, after, behind, only, value_at, first_of, optional, some_each, one_of, are_apart}
use Rattle.policy_text.proofs.Phrases.{same_bytes, after_found, after_spelled, each_found, each_spelled, map_found}

-- ---- one word, some words, words behind others

only_found : {A : Type 0} (f : List ℕ → Option A) (ws : List (List ℕ)) (x : A) → only f ws ≡ Some x → One (λ w y. f w ≡ Some y) ws x
only_found f [] x e = absurd cc
only_found f (w ∷ []) x e = (w, refl, e)
only_found f (v ∷ w ∷ ws) x e = absurd cc

pub one_agrees : {A : Type 0} (f : List ℕ → Option A) (P : List ℕ → A → Type 0) → Agrees f P → Agrees (only f) (One P)
one_agrees f P a = record {
  found = λ ws x e. let w = only_found f ws x e in (w.0, w.1, a.found w.0 x w.2);
  only = λ ws x h. ap (λ (vs : List (List ℕ)). only f vs) h.1 ∙ a.only h.0 x h.2;
}

some_found : {A : Type 0} (f : List ℕ → Option A) (P : List ℕ → A → Type 0) → Agrees f P → (ws : List (List ℕ)) (xs : List A) → some_each f ws ≡ Some xs → AreSome P ws xs
some_found f P a [] xs e = absurd cc
some_found f P a (w ∷ ws) xs e = record { some = omega arith; each = each_found f P a.found (w ∷ ws) xs e }

some_only : {A : Type 0} (f : List ℕ → Option A) (P : List ℕ → A → Type 0) → Agrees f P → (ws : List (List ℕ)) (xs : List A) → AreSome P ws xs → some_each f ws ≡ Some xs
some_only f P a [] xs h = absurd (omega (arith, h.some))
some_only f P a (w ∷ ws) xs h = each_spelled f P a.only (w ∷ ws) xs h.each

pub some_agrees : {A : Type 0} (f : List ℕ → Option A) (P : List ℕ → A → Type 0) → Agrees f P → Agrees (some_each f) (AreSome P)
some_agrees f P a = record { found = some_found f P a; only = some_only f P a }

pub behind_agrees : {A : Type 0} (ks : List (List ℕ)) (f : List (List ℕ) → Option A) (P : List (List ℕ) → A → Type 0) → Agrees f P → Agrees (behind ks f) (Behind ks P)
behind_agrees ks f P a = record {
  found = λ ws x e. let rest = bind_found (after ks ws) f x e in (rest.0, after_found ks ws rest.0 rest.1, a.found rest.0 x rest.2);
  only = λ ws x h. ap (λ (o : Option (List (List ℕ))). o >>= f) (after_spelled ks ws h.0 h.1) ∙ a.only h.0 x h.2;
}

-- ---- a word, and what stands behind it

pair_found : {A B : Type 0} (o : Option A) (ws : List (List ℕ)) (g : List (List ℕ) → Option B) (x : A × B) → first_of (λ w. o) g ([] ∷ ws) ≡ Some x → (o ≡ Some x.0) × (g ws ≡ Some x.1)
pair_found None ws g x e = absurd cc
pair_found {A} {B} (Some v) ws g x e =
    let y = bind_found (g ws) (λ z. Some (v, z)) x e in
    let k = some_is (v, y.0) x y.2 in
    (ap (λ (p : A × B). Some p.0) k, y.1 ∙ ap (λ (p : A × B). Some p.1) k)

pair_only : {A B : Type 0} (o : Option A) (ws : List (List ℕ)) (g : List (List ℕ) → Option B) (x : A × B) → o ≡ Some x.0 → g ws ≡ Some x.1 → first_of (λ w. o) g ([] ∷ ws) ≡ Some x
pair_only o ws g x e f = rw e (rw f refl)

first_found_in : {A B : Type 0} (f : List ℕ → Option A) (g : List (List ℕ) → Option B) (P : List ℕ → A → Type 0) (Q : List (List ℕ) → B → Type 0) → Agrees f P → Agrees g Q → (ws : List (List ℕ)) (x : A × B) → first_of f g ws ≡ Some x → First P Q ws x
first_found_in f g P Q a b [] x e = absurd cc
first_found_in f g P Q a b (w ∷ ws) x e = let h = pair_found (f w) ws g x e in (w, ws, refl, a.found w x.0 h.0, b.found ws x.1 h.1)

pub first_agrees : {A B : Type 0} (f : List ℕ → Option A) (g : List (List ℕ) → Option B) (P : List ℕ → A → Type 0) (Q : List (List ℕ) → B → Type 0) → Agrees f P → Agrees g Q → Agrees (first_of f g) (First P Q)
first_agrees f g P Q a b = record {
  found = first_found_in f g P Q a b;
  only = λ ws x h. ap (λ (vs : List (List ℕ)). first_of f g vs) h.2 ∙ pair_only (f h.0) h.1 g x (a.only h.0 x.0 h.3) (b.only h.1 x.1 h.4);
}

-- ---- words that may be left out

-- the value that may be there, and that of the words behind it
abbrev with_rest : {A B : Type 0} → Option (Option A × List (List ℕ)) → (List (List ℕ) → Option B) → Option (Option A × B)
with_rest o g = o >>= λ p. g p.1 >>= λ y. Some (p.0, y)

-- the value is there where these words are
abbrev found_behind : {A : Type 0} → (List ℕ → Option A) → List (List ℕ) → Option (List (List ℕ)) → Option (Option A × List (List ℕ))
found_behind f ws None = Some (None, ws)
found_behind f ws (Some rest) = value_at f rest >>= λ v. Some (Some v.0, v.1)

there_found : {A B : Type 0} (o : Option A) (ws : List (List ℕ)) (g : List (List ℕ) → Option B) (x : Option A × B) → with_rest (found_behind (λ w. o) [] (Some ([] ∷ ws))) g ≡ Some x
    → (v : A) × (y : B) × (o ≡ Some v) × (g ws ≡ Some y) × ◌≡◌ {A = Option A × B} (Some v, y) x
there_found None ws g x e = absurd cc
there_found (Some v) ws g x e = let y = bind_found (g ws) (λ z. Some (Some v, z)) x e in (v, y.0, refl, y.1, some_is (Some v, y.0) x y.2)

optional_found_in : {A B : Type 0} (ks : List (List ℕ)) (f : List ℕ → Option A) (g : List (List ℕ) → Option B) (P : List ℕ → A → Type 0) (Q : List (List ℕ) → B → Type 0) → Agrees f P → Agrees g Q
    → (ws : List (List ℕ)) (o : Option (List (List ℕ))) (x : Option A × B) → after ks ws ≡ o → with_rest (found_behind f ws o) g ≡ Some x → Optional ks P Q ws x
optional_found_in ks f g P Q a b ws None x t e = let y = bind_found (g ws) (λ z. Some (None, z)) x e in subst (Optional ks P Q ws) (some_is (None, y.0) x y.2) (b.found ws y.0 y.1)
optional_found_in ks f g P Q a b ws (Some []) x t e = absurd cc
optional_found_in ks f g P Q a b ws (Some (w ∷ rest)) x t e =
    let h = there_found (f w) rest g x e in
    subst (Optional ks P Q ws) h.4 (w ∷ rest, after_found ks ws (w ∷ rest) t, (w, rest, refl, a.found w h.0 h.2, b.found rest h.1 h.3))

optional_only : {A B : Type 0} (ks : List (List ℕ)) (f : List ℕ → Option A) (g : List (List ℕ) → Option B) (P : List ℕ → A → Type 0) (Q : List (List ℕ) → B → Type 0) → Agrees f P → Agrees g Q
    → ((ws : List (List ℕ)) (y : B) → Q ws y → after ks ws ≡ None) → (ws : List (List ℕ)) (x : Option A × B) → Optional ks P Q ws x → optional ks f g ws ≡ Some x
optional_only ks f g P Q a b apart ws (Some v, y) (rest, e, (w, tail, t, p, q)) =
    ap (λ (o : Option (List (List ℕ))). with_rest (found_behind f ws o) g) (after_spelled ks ws rest e) ∙ rw t (rw (a.only w v p) (rw (b.only tail y q) refl))
optional_only ks f g P Q a b apart ws (None, y) q =
    ap (λ (o : Option (List (List ℕ))). with_rest (found_behind f ws o) g) (apart ws y q) ∙ rw (b.only ws y q) refl

-- what stands behind the words doesn't begin with them
pub optional_agrees : {A B : Type 0} (ks : List (List ℕ)) (f : List ℕ → Option A) (g : List (List ℕ) → Option B) (P : List ℕ → A → Type 0) (Q : List (List ℕ) → B → Type 0) → Agrees f P → Agrees g Q
    → ((ws : List (List ℕ)) (y : B) → Q ws y → after ks ws ≡ None) → Agrees (optional ks f g) (Optional ks P Q)
optional_agrees ks f g P Q a b apart = record { found = λ ws x e. optional_found_in ks f g P Q a b ws (after ks ws) x refl e; only = optional_only ks f g P Q a b apart }

-- ---- a word of a table

beside_found : {A : Type 0} (t : Bool) (k : List ℕ) (y : A) (more : List (List ℕ × A)) (w : List ℕ) (x : A) → bytes_eq w k ≡ t → (one_of more w ≡ Some x → IsOneOf more w x) → (elim t [ true ↦ Some y | false ↦ one_of more w ]) ≡ Some x → IsOneOf ((k, y) ∷ more) w x
beside_found true k y more w x t rest e = inl (same_bytes w k t, sym (some_is y x e))
beside_found false k y more w x t rest e = inr (rest e)

one_of_found : {A : Type 0} (table : List (List ℕ × A)) (w : List ℕ) (x : A) → one_of table w ≡ Some x → IsOneOf table w x
one_of_found [] w x e = absurd cc
one_of_found ((k, y) ∷ more) w x e = beside_found (bytes_eq w k) k y more w x refl (one_of_found more w x) e

other_word : {A : Type 0} (table : List (List ℕ × A)) (k w : List ℕ) (x : A) → list_all (λ y. not (bytes_eq y.0 k)) table ≡ true → IsOneOf table w x → bytes_eq w k ≡ false
other_word [] k w x apart h = absurd h
other_word {A} ((j, y) ∷ more) k w x apart (inl (e, f)) = ap (λ (v : List ℕ). bytes_eq v k) e ∙ not-true (bytes_eq j k) (and_parts (not (bytes_eq j k)) (list_all (λ (z : List ℕ × A). not (bytes_eq z.0 k)) more) apart).0
other_word {A} ((j, y) ∷ more) k w x apart (inr h) = other_word more k w x (and_parts (not (bytes_eq j k)) (list_all (λ (z : List ℕ × A). not (bytes_eq z.0 k)) more) apart).1 h

one_of_only : {A : Type 0} (table : List (List ℕ × A)) → are_apart table ≡ true → (w : List ℕ) (x : A) → IsOneOf table w x → one_of table w ≡ Some x
one_of_only [] apart w x h = absurd h
one_of_only ((k, y) ∷ more) apart w x (inl (e, f)) = rw e (rw ((bytes_eq-Decides k k).1 refl, one_of) (ap (λ z. Some z) (sym f)))
one_of_only {A} ((k, y) ∷ more) apart w x (inr h) =
    let p = and_parts (list_all (λ (z : List ℕ × A). not (bytes_eq z.0 k)) more) (are_apart more) apart in
    rw (other_word more k w x p.0 h, one_of) (one_of_only more p.1 w x h)

pub one_of_agrees : {A : Type 0} (table : List (List ℕ × A)) → are_apart table ≡ true → Agrees (one_of table) (IsOneOf table)
one_of_agrees table apart = record { found = one_of_found table; only = one_of_only table apart }

-- ---- a form that is made of a value

-- a form that is found is spelled
pub made_found : {W A B : Type 0} (f : W → Option A) (P : W → A → Type 0) (make : A → B) (S : W → B → Type 0) → Agrees f P → ((w : W) (x : A) → P w x → S w (make x)) → (w : W) (y : B) → option_map make (f w) ≡ Some y → S w y
made_found f P make S a is w y e = let x = map_found (f w) make y e in subst (S w) x.2 (is w x.0 (a.found w x.0 x.1))

-- a form that is spelled is found
pub made_only : {W A B : Type 0} (f : W → Option A) (P : W → A → Type 0) (make : A → B) → Agrees f P → (w : W) (x : A) → P w x → option_map make (f w) ≡ Some (make x)
made_only {A = A} f P make a w x h = ap (λ (o : Option A). option_map make o) (a.only w x h)
