-- What fits stays so where entries become terms, and terms a literal's.
use Rattle.std.proofs.Common.{◌≡◌, refl, subst, ℕ, ◌≤◌, Bool, true, false, List, [], ◌∷◌, ◌++◌, Option, Some, None, arith}
use Rattle.std.specs.Prelude.{nat_le, nat_lt, min, max, ◌^◌}
use Rattle.std.specs.Bool.{beq}
use Rattle.std.specs.List.{AllByRecursion}
use Rattle.std.proofs.lemmas.Bool.{and_parts}
use Rattle.std.proofs.lemmas.Bool.Decides.{nat_tests}
use Rattle.path_patterns.proofs.Lists.{all_append}
use Rattle.route_types.specs.Address.{IsMasked, same_family}
use Rattle.route_types.specs.declared.address.Family.{Family}
use Rattle.route_types.specs.declared.address.Family.TheVariants.{V4, V6}
use Rattle.prefix_sets.specs.Range.{RangeParts}
use Rattle.policy_core.specs.Ranges.{prefix_in_range}
use Rattle.rpl_plans.specs.Choices.{joined, joined_choice, grouped_from, grouped, terms_from, terms_of_list, or_never}
use Rattle.rpl_plans.specs.Entries.{has_length, cut_range}
use Rattle.rpl_plans.specs.Fits.{FitsRange, FitsRect, FitsText, FitsTest, FitsChoice, FitsTerm, FitsTerms}
use Rattle.rpl_plans.specs.declared.choice.Choice.{Choice}
use Rattle.rpl_plans.specs.declared.choice.PlannedTerm.{PlannedTerm}
use Rattle.rpl_plans.specs.declared.test.PlannedTest.{PlannedTest}
use Rattle.rpl_plans.specs.declared.test.PlannedTest.TheVariants.{Destination, NextHop as AsksNextHop, PathIn, MatchesAny}
use Rattle.rpl_plans.proofs.FirstChoice.{joined_parts}

-- one more at the end
pub all_with : {A : Type 0} (P : A → Type 0) (xs : List A) (x : A) → AllByRecursion P xs → P x → AllByRecursion P (xs ++ x ∷ [])
all_with P xs x h k = all_append P xs (x ∷ []) h (k, tt)

-- ---- ranges

family_v4 : (f : Family) → same_family V4 f ≡ true → f ≡ V4
family_v4 V4 e = refl
family_v4 V6 e = absurd cc

le_from : (a b : ℕ) → nat_le a b ≡ true → a ≤ b
le_from a b e = grind (arith, nat_tests)

pub cut_fits : (x : RangeParts) → prefix_in_range x.prefix ≡ true → has_length x ≡ true → IsMasked x.prefix.address x.prefix.length → FitsRange (cut_range x)
cut_fits x range some masked = record {
  family = family_v4 x.prefix.address.family (and_parts (same_family V4 x.prefix.address.family) (nat_lt x.prefix.address.bits (2 ^ 32)) range).0;
  masked = masked;
  least = omega arith;
  rises = le_from (max x.least x.prefix.length) (min x.most 32) some;
  most = omega arith;
}

-- ---- one set for neighbours

FitsSome : Option PlannedTest → Type 0
FitsSome None = Unit {0}
FitsSome (Some t) = FitsTest t

joined_fits : (t u v : PlannedTest) → joined t u ≡ Some v → FitsTest t → FitsTest u → FitsTest v
unfolding FitsSome
joined_fits (Destination rs) (Destination ss) v e h k = subst FitsSome e (all_append FitsRange rs ss h k)
joined_fits (AsksNextHop rs) (AsksNextHop ss) v e h k = subst FitsSome e (all_append FitsRange rs ss h k)
joined_fits (PathIn ps) (PathIn qs) v e h k = subst FitsSome e (all_append FitsText ps qs h k)
joined_fits (MatchesAny rs) (MatchesAny ss) v e h k = subst FitsSome e (all_append FitsRect rs ss h k)
joined_fits t u v e h k = absurd cc

grouped_from_fits : (c : Choice) (ds : List Choice) → FitsChoice c → AllByRecursion FitsChoice ds → AllByRecursion FitsChoice (grouped_from c ds)
unfolding grouped_from
grouped_from_fits c [] h k = (h, tt)
grouped_from_fits c (d ∷ ds) h k = one (joined_choice c d) refl (λ e fits. grouped_from_fits e ds fits k.1) where
  one : (o : Option PlannedTest) → joined_choice c d ≡ o → ((e : Choice) → FitsChoice e → AllByRecursion FitsChoice (grouped_from e ds))
      → AllByRecursion FitsChoice (elim o [ Some test ↦ grouped_from (record { permit = c.permit; test = test }) ds | None ↦ c ∷ grouped_from d ds ])
  one (Some test) e more = more (record { permit = c.permit; test = test }) (joined_fits c.test d.test test (joined_parts (beq c.permit d.permit) (joined c.test d.test) test e).1 h k.0)
  one None e more = (h, more d k.0)

grouped_fits : (cs : List Choice) → AllByRecursion FitsChoice cs → AllByRecursion FitsChoice (grouped cs)
grouped_fits [] h = tt
grouped_fits (c ∷ cs) h = grouped_from_fits c cs h.0 h.1

-- ---- terms

terms_fit : (denied : List PlannedTest) (cs : List Choice) → AllByRecursion FitsTest denied → AllByRecursion FitsChoice cs → AllByRecursion FitsTerm (terms_from denied cs)
unfolding terms_from
terms_fit denied [] h k = tt
terms_fit denied (c ∷ cs) h k = one c.permit (λ ds fits. terms_fit ds cs fits k.1) where
  one : (b : Bool) → ((ds : List PlannedTest) → AllByRecursion FitsTest ds → AllByRecursion FitsTerm (terms_from ds cs))
      → AllByRecursion FitsTerm (elim b [ true ↦ record { denied = denied; permitted = c.test } ∷ terms_from denied cs | false ↦ terms_from (denied ++ c.test ∷ []) cs ])
  one true more = ((h, k.0), more denied h)
  one false more = more (denied ++ c.test ∷ []) (all_with FitsTest denied c.test h k.0)

-- the terms of a list behind others
pub terms_behind : (ts : List PlannedTerm) (cs : List Choice) → AllByRecursion FitsTerm ts → AllByRecursion FitsChoice cs → AllByRecursion FitsTerm (ts ++ terms_of_list cs)
terms_behind ts cs h k = all_append FitsTerm ts (terms_of_list cs) h (terms_fit [] (grouped cs) tt (grouped_fits cs k))

-- or a test that never holds
pub never_fits : (never : PlannedTest) (ts : List PlannedTerm) → FitsTest never → AllByRecursion FitsTerm ts → FitsTerms (or_never never ts)
never_fits never [] h k = ((tt, h), tt)
never_fits never (t ∷ ts) h k = k
