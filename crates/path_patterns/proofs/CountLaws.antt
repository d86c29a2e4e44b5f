-- What the tests on counts tell.
use Rattle.std.proofs.Common.{◌≡◌, refl, ap, ℕ, ◌<◌, true, false, Option, Some, None, arith, ltb-true, ltb-false, eqb-true}
use Rattle.path_patterns.specs.Items.{AtMost}
use Rattle.path_patterns.specs.Counts.{is_above, is_nothing}

pub at_most_of : (least : ℕ) (most : Option ℕ) → is_above least most ≡ false → AtMost least most
at_most_of least None e = tt
at_most_of least (Some most) e = ltb-false most least e

pub above_found : (least : ℕ) (o : Option ℕ) → is_above least o ≡ true → (most : ℕ) × (o ≡ Some most) × (most < least)
above_found least None e = absurd cc
above_found least (Some most) e = (most, refl, ltb-true most least e)

pub nothing_found : (o : Option ℕ) → is_nothing o ≡ true → o ≡ Some 0
nothing_found None e = absurd cc
nothing_found (Some most) e = ap (λ (n : ℕ). Some n) (eqb-true most 0 e)

pub zero_at_most : (o : Option ℕ) → AtMost 0 o
zero_at_most None = tt
zero_at_most (Some m) = omega arith
