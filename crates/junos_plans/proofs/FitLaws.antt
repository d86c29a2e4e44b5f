-- What fits stays so where more is added.
use Rattle.std.proofs.Common.{◌≡◌, refl, ℕ, ◌≤◌, true, List, [], ◌∷◌, ◌++◌, arith}
use Rattle.std.specs.Prelude.{nat_le, nat_lt, min, max, ◌^◌}
use Rattle.std.specs.List.{AllByRecursion}
use Rattle.std.proofs.lemmas.Bool.{and_parts}
use Rattle.std.proofs.lemmas.Bool.Decides.{nat_tests}
use Rattle.path_patterns.proofs.Lists.{all_append}
use Rattle.route_types.specs.Address.{IsMasked, same_family}
use Rattle.route_types.specs.declared.address.Family.{Family}
use Rattle.route_types.specs.declared.address.Family.TheVariants.{V4, V6}
use Rattle.prefix_sets.specs.Range.{RangeParts}
use Rattle.policy_core.specs.Ranges.{prefix_in_range}
use Rattle.junos_plans.specs.Entries.{has_length, cut_range}
use Rattle.junos_plans.specs.Fits.{FitsRange}

-- one more at the end
pub all_with : {A : Type 0} (P : A → Type 0) (xs : List A) (x : A) → AllByRecursion P xs → P x → AllByRecursion P (xs ++ x ∷ [])
all_with P xs x h k = all_append P xs (x ∷ []) h (k, tt)

family_v4 : (f : Family) → same_family V4 f ≡ true → f ≡ V4
family_v4 V4 e = refl
family_v4 V6 e = absurd cc

le_from : (a b : ℕ) → nat_le a b ≡ true → a ≤ b
le_from a b e = grind (arith, nat_tests)

pub cut_fits : (x : RangeParts) → prefix_in_range x.prefix ≡ true → has_length x ≡ true → IsMasked x.prefix.address x.prefix.length → FitsRange (cut_range x)
cut_fits x range some masked = record {
  family = family_v4 x.prefix.address.family (and_parts (same_family V4 x.prefix.address.family) (nat_lt x.prefix.address.bits (2 ^ 32)) range).0;
  masked = masked;
  least = omega arith;
  rises = le_from (max x.least x.prefix.length) (min x.most 32) some;
  most = omega arith;
}
