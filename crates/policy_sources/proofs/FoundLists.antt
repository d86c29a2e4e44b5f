-- Where all that steps lead to lies within a list, a list holds just what is found.
use Rattle.std.proofs.Common.{◌≡◌, ◌⊎◌, inl, inr, refl, sym, subst, ◌∙◌, ℕ, zero, suc, ◌+◌, ◌≤◌, List, [], ◌∷◌, ◌++◌, length, arith}
use Rattle.std.specs.List.{flat_map}
use Rattle.step_search.specs.Found.{IsIn, steps_from, IsFound}
use Rattle.step_search.proofs.Closed.{in_left, in_right, in_either, in_flat, from_flat, found_first, found_next}

-- a list that holds just what is found
pub record IsListed {A : Type 0} (next : A → List A) (start : List A) : Type 0 where
  pub list : List A
  pub sound : (x : A) → IsIn x list → IsFound next start x
  pub whole : (x : A) → IsFound next start x → IsIn x list

module _ {A : Type 0} where
  -- the list without one that is in it
  abbrev without : (x : A) (xs : List A) → IsIn x xs → List A
  without x [] here = absurd here
  without x (y ∷ ys) (inl same) = ys
  without x (y ∷ ys) (inr there) = y ∷ without x ys there

  shorter : (x : A) (xs : List A) (here : IsIn x xs) → length (without x xs here) + 1 ≡ length xs
  shorter x [] here = absurd here
  shorter x (y ∷ ys) (inl same) = let one : length ys + 1 ≡ suc (length ys) = omega arith in one
  shorter x (y ∷ ys) (inr there) = let less = shorter x ys there in omega (arith, less)

  others : (x : A) (xs : List A) (here : IsIn x xs) (z : A) → IsIn z xs → (z ≡ x) ⊎ IsIn z (without x xs here)
  others x [] here z at = absurd here
  others x (y ∷ ys) (inl same) z (inl is) = inl (is ∙ sym same)
  others x (y ∷ ys) (inl same) z (inr at) = inr at
  others x (y ∷ ys) (inr there) z (inl is) = inr (inl is)
  others x (y ∷ ys) (inr there) z (inr at) = elim (others x ys there z at) [ inl is ↦ inl is | inr more ↦ inr (inr more) ]

module _ {A : Type 0} (next : A → List A) (start all : List A) (starts : (x : A) → IsIn x start → IsIn x all) (stays : (y x : A) → IsIn y all → IsIn x (next y) → IsIn x all) where
  -- what these lead to, and the start
  abbrev ahead : List A → List A
  ahead xs = start ++ flat_map next xs

  -- these are found, and all others are left
  record IsPart (xs left : List A) : Type 0 where
    sound : (x : A) → IsIn x xs → IsFound next start x
    within : (x : A) → IsIn x xs → IsIn x all
    split : (x : A) → IsIn x all → IsIn x xs ⊎ IsIn x left

  ahead_found : (xs left : List A) → IsPart xs left → (x : A) → IsIn x (ahead xs) → IsFound next start x
  ahead_found xs left part x here = elim (in_either x start (flat_map next xs) here) [
    | inl first ↦ found_first next start x first
    | inr later ↦ let from = from_flat next x xs later in found_next next start from.0 x (part.sound from.0 from.1) from.2
  ]

  ahead_within : (xs left : List A) → IsPart xs left → (x : A) → IsIn x (ahead xs) → IsIn x all
  ahead_within xs left part x here = elim (in_either x start (flat_map next xs) here) [
    | inl first ↦ starts x first
    | inr later ↦ let from = from_flat next x xs later in stays from.0 x (part.within from.0 from.1) from.2
  ]

  -- all of these are in the list, or one of them is left
  abbrev AreIn : List A → List A → List A → Type 0
  AreIn these xs left = ((x : A) → IsIn x these → IsIn x xs) ⊎ ((x : A) × IsIn x these × IsIn x left)

  look : (these xs left : List A) → ((x : A) → IsIn x these → IsIn x xs ⊎ IsIn x left) → AreIn these xs left
  look [] xs left split = inl (λ x here. absurd here)
  look (y ∷ ys) xs left split = here (split y (inl refl)) (look ys xs left (λ x more. split x (inr more)))
    where
      here : IsIn y xs ⊎ IsIn y left → AreIn ys xs left → AreIn (y ∷ ys) xs left
      here (inr new) more = inr (y, inl refl, new)
      here (inl old) (inr found) = inr (found.0, inr found.1, found.2)
      here (inl old) (inl rest) = inl each
        where
          each : (x : A) → IsIn x (y ∷ ys) → IsIn x xs
          each x (inl same) = subst (λ (z : A). IsIn z xs) (sym same) old
          each x (inr later) = rest x later

  -- a list that no step leaves holds all that is found
  closed : (xs : List A) → ((x : A) → IsIn x (ahead xs) → IsIn x xs) → (n : ℕ) (x : A) → IsIn x (steps_from next start n) → IsIn x xs
  unfolding steps_from
  closed xs all_in zero x here = all_in x (in_left x start (flat_map next xs) here)
  closed xs all_in (suc n) x here =
      let from = from_flat next x (steps_from next start n) here in
      all_in x (in_right x start (flat_map next xs) (in_flat next from.0 x xs (closed xs all_in n from.0 from.1) from.2))

  one_more : (xs left : List A) → IsPart xs left → (x : A) → IsIn x (ahead xs) → (here : IsIn x left) → IsPart (x ∷ xs) (without x left here)
  one_more xs left part x found here = record { sound = sound; within = within; split = split }
    where
      sound : (z : A) → IsIn z (x ∷ xs) → IsFound next start z
      sound z (inl same) = subst (IsFound next start) (sym same) (ahead_found xs left part x found)
      sound z (inr old) = part.sound z old

      within : (z : A) → IsIn z (x ∷ xs) → IsIn z all
      within z (inl same) = subst (λ (w : A). IsIn w all) (sym same) (ahead_within xs left part x found)
      within z (inr old) = part.within z old

      split : (z : A) → IsIn z all → IsIn z (x ∷ xs) ⊎ IsIn z (without x left here)
      split z there = elim (part.split z there) [
        | inl old ↦ inl (inr old)
        | inr new ↦ elim (others x left here z new) [ inl same ↦ inl (inl same) | inr more ↦ inr more ]
      ]

  none_left : (left : List A) (x : A) → length left ≤ 0 → IsIn x left → ⊥
  none_left [] x short here = here
  none_left (y ∷ ys) x short here = absurd (omega (arith, short))

  -- all that is ahead is in the list, or one of it is left and goes into the list
  listed_or : (xs left : List A) → IsPart xs left → AreIn (ahead xs) xs left
      → ((x : A) → IsIn x (ahead xs) → (here : IsIn x left) → IsPart (x ∷ xs) (without x left here) → IsListed next start) → IsListed next start
  listed_or xs left part (inl all_in) more = record { list = xs; sound = part.sound; whole = λ x found. closed xs all_in found.steps x found.there }
  listed_or xs left part (inr new) more = more new.0 new.1 new.2 (one_more xs left part new.0 new.1 new.2)

  look_ahead : (xs left : List A) → IsPart xs left → AreIn (ahead xs) xs left
  look_ahead xs left part = look (ahead xs) xs left (λ x here. part.split x (ahead_within xs left part x here))

  listed_by : (n : ℕ) (xs left : List A) → length left ≤ n → IsPart xs left → IsListed next start
  listed_by zero xs left short part = listed_or xs left part (look_ahead xs left part) (λ x found here longer. absurd (none_left left x short here))
  listed_by (suc m) xs left short part =
      listed_or xs left part (look_ahead xs left part) (λ x found here longer. listed_by m (x ∷ xs) (without x left here) (omega (arith, shorter x left here, short)) longer)

  -- just what is found is in a list
  pub listed : IsListed next start
  listed = listed_by (length all) [] all (omega arith) (record { sound = λ x here. absurd here; within = λ x here. absurd here; split = λ x here. inr here })
