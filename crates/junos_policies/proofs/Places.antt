-- The place of a value among others.
use Rattle.std.proofs.Common.{◌≡◌, refl, sym, ◌∙◌, ℕ, suc, Bool, true, false, List, [], ◌∷◌, ◌+◌, ◌≤◌, length, cond, not, nat_lt, Some, None, arith}
use Rattle.std.proofs.lemmas.Bool.Decides.{nat_tests}
use Rattle.std.proofs.lemmas.List.Sums.{prefix_len-le-length}
use Rattle.std.proofs.lemmas.Option.{same_Some}
use Rattle.std.proofs.lemmas.List.Recursion.{is_position_or_len}
use Rattle.std.specs.List.{position, position_or_len}
use Rattle.junos_policies.specs.Noting.{place_in}

module _ {D : Type 0} (test : D → Bool) where
  place_base : place_in test [] ≡ 0
  unfolding place_in
  place_base = refl

  place_step : (d : D) (ds : List D) → place_in test (d ∷ ds) ≡ cond (test d) 0 (1 + place_in test ds)
  unfolding place_in
  place_step d ds = at (test d)
    where
      at : (b : Bool) → elim b [ true ↦ 0 | false ↦ suc (place_in test ds) ] ≡ cond b 0 (1 + place_in test ds)
      at true = refl
      at false = omega arith

  place_is : (ds : List D) → place_in test ds ≡ position_or_len test ds
  place_is ds = is_position_or_len (place_in test) test place_base place_step ds

  -- a set that is among others stands at its place
  pub place_of_position : (ds : List D) (n : ℕ) → position test ds ≡ Some n → n ≡ place_in test ds
  place_of_position ds n e = at (nat_lt (position_or_len test ds) (length ds)) e
    where
      at : (b : Bool) → cond b (Some (position_or_len test ds)) None ≡ Some n → n ≡ place_in test ds
      at true is = sym (same_Some (position_or_len test ds) n is) ∙ sym (place_is ds)
      at false is = absurd cc

  -- where it is not among them, that is behind them
  pub place_of_none : (ds : List D) → position test ds ≡ None → length ds ≡ place_in test ds
  place_of_none ds e = at (nat_lt (position_or_len test ds) (length ds)) refl e
    where
      at : (b : Bool) → nat_lt (position_or_len test ds) (length ds) ≡ b → cond b (Some (position_or_len test ds)) None ≡ None → length ds ≡ place_in test ds
      at true less is = absurd cc
      at false less is =
          let short = prefix_len-le-length (λ x. not (test x)) ds in
          let long : length ds ≤ position_or_len test ds = grind (arith, nat_tests) in
          let same : length ds ≡ position_or_len test ds = omega (arith, short, long) in
          same ∙ sym (place_is ds)
