-- Shifts that may take all the bits, and masks.
use Rattle.std.proofs.Common.{◌≡◌, sym, ap, ◌∙◌, ℕ, ◌*◌, ◌/◌, ◌%◌, ◌^◌, ◌<◌, ◌≤◌, Option, Some, None, arith}
use Rattle.std.specs.Prelude.{unwrap_or, SomeIff}
use Rattle.std.proofs.Math.Nat.{div-eq_of_lt, mod-eq_of_lt, zero-mul}
use Rattle.std.proofs.Math.Pow.{pow_mono}
use Rattle.std.proofs.lemmas.Nat.{div-add-mod'}

below : (n a b : ℕ) → n < a → a ≤ b → n < b
below n a b h k = omega arith

no_front : (bits count : ℕ) → bits < 2 ^ 128 → 128 ≤ count → bits / 2 ^ count ≡ 0
no_front bits count small wide = div-eq_of_lt (below bits (2 ^ 128) (2 ^ count) small (pow_mono wide))

kept : (n m limit : ℕ) → n < limit → n / m * m % limit ≡ n / m * m
kept n m limit h = mod-eq_of_lt (omega (arith, div-add-mod' n m))

nothing : (n m : ℕ) → n ≡ 0 → 0 ≡ n * m
nothing n m e = sym (ap (λ (k : ℕ). k * m) e ∙ zero-mul m)

-- a shift to the right, which gives 0 where it takes all the bits
pub front_by_shift : (bits count : ℕ) (r : Option ℕ) → bits < 2 ^ 128 → SomeIff r (count < 128) (bits / 2 ^ count) → unwrap_or r 0 ≡ bits / 2 ^ count
front_by_shift bits count (Some n) small h = h.1
front_by_shift bits count None small h = sym (no_front bits count small (omega arith))

-- a shift to the left of what a shift to the right left
pub masked_by_shift : (bits count : ℕ) (r : Option ℕ) → bits < 2 ^ 128 → SomeIff r (count < 128) (bits / 2 ^ count * 2 ^ count % 2 ^ 128) → unwrap_or r 0 ≡ bits / 2 ^ count * 2 ^ count
masked_by_shift bits count (Some n) small h = h.1 ∙ kept bits (2 ^ count) (2 ^ 128) small
masked_by_shift bits count None small h = nothing (bits / 2 ^ count) (2 ^ count) (no_front bits count small (omega arith))
