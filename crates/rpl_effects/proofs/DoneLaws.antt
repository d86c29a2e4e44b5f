-- What pieces come to, done piece by piece.
use Rattle.std.proofs.Common.{◌≡◌, sym, ap, ◌∙◌, ℕ, ◌-◌, ◌<◌, ◌≤◌, List, [], ◌∷◌, length, get_or, take, drop, slice_get, Some, None, arith}
use Rattle.std.proofs.lemmas.List.{take_all}
use Rattle.rpl_effects.specs.Pieces.{leaves, leaves_at}
use Rattle.rpl_effects.specs.Changes.{all_done}
use Rattle.rpl_effects.specs.declared.effect.Piece.{Piece}
use Rattle.rpl_effects.specs.declared.effect.Piece.TheVariants.{One, OfEffect}
use Rattle.rpl_effects.specs.declared.effect.Effect.{Effect}
use Rattle.rpl_effects.proofs.PieceLaws.{at_there, at_none, no_place}
use Rattle.rpl_effects.proofs.ChangeLaws.{done_append}

-- an item in front of what stands behind it
pub front : {A : Type 0} (rest : List A) (other i : A) (n : ℕ) → 1 ≤ length rest → get_or rest 0 other ≡ i → n ≡ length rest - 1 → i ∷ take n (drop 1 rest) ≡ rest
front [] other i n long is len = absurd (omega arith)
front {A} (y ∷ ys) other i n long is len = ap (λ (x : A). x ∷ take n ys) (sym is) ∙ ap (λ (xs : List A). y ∷ xs) (take_all n ys (omega (arith, len)))

module _ {T A : Type 0} (does : T → A → A) where
  -- the first piece is one thing that is done
  pub one_done : (at : ℕ → List T) (rest : List (Piece T)) (other : Piece T) (x : T) (n : ℕ) (old new all : A) → 1 ≤ length rest → get_or rest 0 other ≡ One x → n ≡ length rest - 1 → new ≡ does x old
      → all_done does (leaves at rest) old ≡ all → all_done does (leaves at (take n (drop 1 rest))) new ≡ all
  unfolding all_done leaves
  one_done at rest other x n old new all long is len made so_far =
      ap (λ (a : A). all_done does (leaves at (take n (drop 1 rest))) a) made ∙ ap (λ (ps : List (Piece T)). all_done does (leaves at ps) old) (front rest other (One x) n long is len) ∙ so_far

  -- the first piece stands for an effect
  pub those_done : (at : ℕ → List T) (rest : List (Piece T)) (other : Piece T) (place n : ℕ) (old new all : A) → 1 ≤ length rest → get_or rest 0 other ≡ OfEffect place → n ≡ length rest - 1 → new ≡ all_done does (at place) old
      → all_done does (leaves at rest) old ≡ all → all_done does (leaves at (take n (drop 1 rest))) new ≡ all
  unfolding leaves
  those_done at rest other place n old new all long is len made so_far =
      ap (λ (a : A). all_done does (leaves at (take n (drop 1 rest))) a) made
      ∙ sym (done_append does (at place) (leaves at (take n (drop 1 rest))) old)
      ∙ ap (λ (ps : List (Piece T)). all_done does (leaves at ps) old) (front rest other (OfEffect place) n long is len)
      ∙ so_far

  -- each piece is done
  pub each_done : (at : ℕ → List T) (rest : List (Piece T)) (new all : A) → length rest < 1 → all_done does (leaves at rest) new ≡ all → new ≡ all
  unfolding all_done leaves
  each_done at [] new all short so_far = so_far
  each_done at (p ∷ ps) new all short so_far = absurd (omega arith)

  -- all that the effect at a place has, by its pieces
  pub effect_done : {S : Type 0} (pieces : Effect S → List (Piece T)) (table older : List (Effect S)) (ps : List (Piece T)) (place : ℕ) (e : Effect S) (old new : A) → slice_get table place ≡ Some e → older ≡ take place table → ps ≡ pieces e
      → new ≡ all_done does (leaves (leaves_at pieces older) ps) old → new ≡ all_done does (leaves_at pieces table place) old
  effect_done {S} pieces table older ps place e old new there cut has made =
      made
      ∙ ap (λ (t : List (Effect S)). all_done does (leaves (leaves_at pieces t) ps) old) cut
      ∙ ap (λ (qs : List (Piece T)). all_done does (leaves (leaves_at pieces (take place table)) qs) old) has
      ∙ ap (λ (xs : List T). all_done does xs old) (sym (at_there pieces table place e there))

  pub no_effect : {S : Type 0} (pieces : Effect S → List (Piece T)) (table : List (Effect S)) (place : ℕ) (a : A) → slice_get table place ≡ None → a ≡ all_done does (leaves_at pieces table place) a
  unfolding all_done
  no_effect pieces table place a none = ap (λ (xs : List T). all_done does xs a) (sym (at_none pieces table place (no_place table place none)))
