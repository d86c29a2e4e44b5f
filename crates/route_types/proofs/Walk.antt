-- The walk over digits gives the number that the word spells.
use Rattle.std.proofs.Common.{◌≡◌, refl, sym, ap, ◌∙◌, ℕ, ◌+◌, ◌-◌, ◌*◌, ◌<◌, ◌≤◌, Bool, true, false, cond, not, nat_le, List, [], ◌∷◌, Option, None, arith, inl, inr, ◌⊎◌}
use Rattle.std.specs.Prelude.{◌==◌}
use Rattle.std.proofs.lemmas.Bool.{le-leb, lt-leb, cases_lt}
use Rattle.route_types.specs.Words.{is_digit, digits_after, number_in, when, ◌>>=◌}
use Rattle.route_types.proofs.Numbers.{when_true}
use Rattle.route_types.specs.Walk.{number_after, starts_plainly}

-- the value, if it is at most the greatest one
abbrev up_to : ℕ → Option ℕ → Option ℕ
up_to most o = o >>= λ m. when (nat_le m most) m

when_false : {A : Type 0} (b : Bool) (x : A) → b ≡ false → when b x ≡ None
when_false true x e = absurd cc
when_false false x e = refl

too_large : (most n : ℕ) (cs : List ℕ) → most < n → up_to most (digits_after n cs) ≡ None
too_large most n [] h = when_false (nat_le n most) n (lt-leb n most h)
too_large most n (c ∷ cs) h =
    elim (is_digit c) as (λ v. up_to most (elim v [ true ↦ digits_after (n * 10 + (c - 48)) cs | false ↦ None ]) ≡ None) [
      | true ↦ too_large most (n * 10 + (c - 48)) cs (omega arith)
      | false ↦ refl
    ]

number_after_step : (most n c : ℕ) (cs : List ℕ) (m : ℕ) → ((m < most + 1) ⊎ (most + 1 ≤ m)) → (m ≤ most → number_after most m cs ≡ up_to most (digits_after m cs)) → (when (nat_le m most) m >>= λ k. number_after most k cs) ≡ up_to most (digits_after m cs)
number_after_step most n c cs m (inl lt) more =
    ap (λ (o : Option ℕ). o >>= λ k. number_after most k cs) (when_true (nat_le m most) m (le-leb m most (omega arith))) ∙ more (omega arith)
number_after_step most n c cs m (inr le) more =
    ap (λ (o : Option ℕ). o >>= λ k. number_after most k cs) (when_false (nat_le m most) m (lt-leb m most (omega arith))) ∙ sym (too_large most m cs (omega arith))

pub number_after_is : (most n : ℕ) (cs : List ℕ) → n ≤ most → number_after most n cs ≡ up_to most (digits_after n cs)
unfolding number_after
number_after_is most n [] h = sym (when_true (nat_le n most) n (le-leb n most h))
number_after_is most n (c ∷ cs) h =
    elim (is_digit c) as (λ v. ((elim v [ true ↦ when (nat_le (n * 10 + (c - 48)) most) (n * 10 + (c - 48)) | false ↦ None ]) >>= λ m. number_after most m cs) ≡ up_to most (elim v [ true ↦ digits_after (n * 10 + (c - 48)) cs | false ↦ None ])) [
      | true ↦ number_after_step most n c cs (n * 10 + (c - 48)) (cases_lt (n * 10 + (c - 48)) (most + 1)) (number_after_is most (n * 10 + (c - 48)) cs)
      | false ↦ refl
    ]

more_by_test : (t : Bool) (most c d : ℕ) (cs : List ℕ) → up_to most (elim t [ true ↦ None | false ↦ digits_after 0 (c ∷ d ∷ cs) ]) ≡ cond (not t) (number_after most 0 (c ∷ d ∷ cs)) None
more_by_test true most c d cs = refl
more_by_test false most c d cs = sym (number_after_is most 0 (c ∷ d ∷ cs) (omega arith))

-- the number of a word is what the walk gives, where the word starts plainly
pub number_in_walk : (most : ℕ) (word : List ℕ) → number_in most word ≡ cond (starts_plainly word) (number_after most 0 word) None
unfolding number_in
number_in_walk most [] = refl
number_in_walk most (c ∷ []) = sym (number_after_is most 0 (c ∷ []) (omega arith))
number_in_walk most (c ∷ d ∷ cs) = more_by_test (c == 48) most c d cs
