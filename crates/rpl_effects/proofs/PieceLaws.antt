-- What pieces come to: piece by piece, and by the effects of a table.
use Rattle.std.proofs.Common.{◌≡◌, refl, sym, ap, ◌∙◌, ℕ, zero, suc, ◌<◌, ◌≤◌, Bool, true, false, List, [], ◌∷◌, ◌++◌, length, reverse, take, drop, slice_get, Some, None, append_assoc, arith}
use Rattle.std.proofs.lemmas.Bool.{eq-eqb, ne_eqb}
use Rattle.std.proofs.lemmas.List.{reverse-append, length-reverse}
use Rattle.std.proofs.lemmas.Option.{same_Some}
use Rattle.rpl_effects.specs.Pieces.{leaves, leaves_in, leaves_at}
use Rattle.rpl_effects.specs.declared.effect.Piece.{Piece}
use Rattle.rpl_effects.specs.declared.effect.Piece.TheVariants.{One, OfEffect}
use Rattle.rpl_effects.specs.declared.effect.Effect.{Effect}

module _ {T : Type 0} (at : ℕ → List T) where
  pub leaves_append : (ps qs : List (Piece T)) → leaves at (ps ++ qs) ≡ leaves at ps ++ leaves at qs
  unfolding leaves
  leaves_append [] qs = refl
  leaves_append (One x ∷ ps) qs = ap (λ (xs : List T). x ∷ xs) (leaves_append ps qs)
  leaves_append (OfEffect k ∷ ps) qs = ap (λ (xs : List T). at k ++ xs) (leaves_append ps qs) ∙ sym (append_assoc (at k) (leaves at ps) (leaves at qs))

-- a list, split where something stands
pub split : {A : Type 0} (x : A) (xs : List A) (n : ℕ) → slice_get xs n ≡ Some x → take n xs ++ (x ∷ drop (suc n) xs) ≡ xs
split x [] n e = absurd cc
split {A} x (y ∷ xs) zero e = ap (λ (z : A). z ∷ xs) (sym (same_Some y x e))
split {A} x (y ∷ xs) (suc n) e = ap (λ (zs : List A). y ∷ zs) (split x xs n e)

pub before_it : {A : Type 0} (x : A) (xs : List A) (n : ℕ) → slice_get xs n ≡ Some x → length (take n xs) ≡ n
before_it x [] n e = absurd cc
before_it x (y ∷ xs) zero e = refl
before_it x (y ∷ xs) (suc n) e = ap (λ (m : ℕ). suc m) (before_it x xs n e)

module _ {S T : Type 0} (pieces : Effect S → List (Piece T)) where
  by_place : Effect S → List (Effect S) → ℕ → Bool → List T
  by_place e older place b = elim b [ true ↦ leaves (leaves_in pieces older) (pieces e) | false ↦ leaves_in pieces older place ]

  -- the newest effect, and one of the others
  newest : (e : Effect S) (older : List (Effect S)) → leaves_in pieces (e ∷ older) (length older) ≡ leaves (leaves_in pieces older) (pieces e)
  unfolding leaves_in by_place
  newest e older = ap (λ (b : Bool). by_place e older (length older) b) (eq-eqb (length older) (length older) refl)

  other : (e : Effect S) (older : List (Effect S)) (place : ℕ) → (place ≡ length older → ⊥) → leaves_in pieces (e ∷ older) place ≡ leaves_in pieces older place
  unfolding leaves_in by_place
  other e older place apart = ap (λ (b : Bool). by_place e older place b) (ne_eqb place (length older) apart)

  length_past : (newer : List (Effect S)) (e : Effect S) (older : List (Effect S)) → length older < length (newer ++ (e ∷ older))
  length_past [] e older = omega arith
  length_past (n ∷ newer) e older = let h = length_past newer e older in omega arith

  length_more : (newer older : List (Effect S)) → length older ≤ length (newer ++ older)
  length_more [] older = omega arith
  length_more (n ∷ newer) older = let h = length_more newer older in omega arith

  -- behind newer effects
  in_there : (newer : List (Effect S)) (e : Effect S) (older : List (Effect S)) → leaves_in pieces (newer ++ (e ∷ older)) (length older) ≡ leaves (leaves_in pieces older) (pieces e)
  in_there [] e older = newest e older
  in_there (n ∷ newer) e older =
      other n (newer ++ (e ∷ older)) (length older) (λ (same : length older ≡ length (newer ++ (e ∷ older))). let h = length_past newer e older in omega arith) ∙ in_there newer e older

  in_kept : (newer older : List (Effect S)) (place : ℕ) → place < length older → leaves_in pieces (newer ++ older) place ≡ leaves_in pieces older place
  in_kept [] older place h = refl
  in_kept (n ∷ newer) older place h =
      other n (newer ++ older) place (λ (same : place ≡ length (newer ++ older)). let l = length_more newer older in omega arith) ∙ in_kept newer older place h

  in_past : (table : List (Effect S)) (place : ℕ) → length table ≤ place → leaves_in pieces table place ≡ []
  unfolding leaves_in
  in_past [] place h = refl
  in_past (e ∷ older) place h = other e older place (λ (same : place ≡ length older). omega arith) ∙ in_past older place (omega arith)

  -- the effect at a place
  pub at_there : (table : List (Effect S)) (place : ℕ) (e : Effect S) → slice_get table place ≡ Some e → leaves_at pieces table place ≡ leaves (leaves_at pieces (take place table)) (pieces e)
  at_there table place e there =
      let front = take place table in
      let rest = drop (suc place) table in
      ap (λ (t : List (Effect S)). leaves_in pieces t place) (ap (λ (t : List (Effect S)). reverse t) (sym (split e table place there)) ∙ reverse-append front (e ∷ rest) ∙ ap (λ (t : List (Effect S)). t ++ reverse front) (reverse-append (e ∷ []) rest) ∙ append_assoc (reverse rest) (e ∷ []) (reverse front))
      ∙ ap (λ (n : ℕ). leaves_in pieces (reverse rest ++ (e ∷ reverse front)) n) (sym (before_it e table place there) ∙ sym (length-reverse front))
      ∙ in_there (reverse rest) e (reverse front)

  -- more effects behind it leave it as it is
  pub at_kept : (table more : List (Effect S)) (place : ℕ) → place < length table → leaves_at pieces (table ++ more) place ≡ leaves_at pieces table place
  at_kept table more place h =
      ap (λ (t : List (Effect S)). leaves_in pieces t place) (reverse-append table more)
      ∙ in_kept (reverse more) (reverse table) place (rw (length-reverse table) h)

  -- where none stands
  pub at_none : (table : List (Effect S)) (place : ℕ) → length table ≤ place → leaves_at pieces table place ≡ []
  at_none table place h = in_past (reverse table) place (rw (length-reverse table) h)

-- a place where nothing stands is past the end
pub no_place : {A : Type 0} (xs : List A) (n : ℕ) → slice_get xs n ≡ None → length xs ≤ n
no_place [] n e = omega arith
no_place (x ∷ xs) zero e = absurd cc
no_place (x ∷ xs) (suc n) e = let h = no_place xs n e in omega arith
