-- The bits of a set of digits.
use Rattle.std.proofs.Common.{◌≡◌, ap, ℕ}
use Rattle.std.specs.Prelude.{◌==◌, ◌^◌, ◌<◌, ◌≤◌, false}
use Rattle.std.proofs.lemmas.Nat.Bits.{bit_at_above}
use Rattle.path_patterns.specs.PathItems.{has_digit}
use Rattle.path_patterns.specs.declared.pattern.DigitSet.{DigitSet}

-- a set of sixteen bits has no digit above them
pub no_digit_above : (s : DigitSet) (d : ℕ) → s.0 < 2 ^ 16 → 16 ≤ d → has_digit s d ≡ false
no_digit_above s d small above = ap (λ (n : ℕ). n == 1) (bit_at_above s.0 16 d small above)
