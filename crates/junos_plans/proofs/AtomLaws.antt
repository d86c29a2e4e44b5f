-- Lists of entries of full length are in range.
use Rattle.std.proofs.Common.{◌≡◌, refl, ◌<◌, Bool, true, false, ◌&&◌, List, [], ◌∷◌, length, arith}
use Rattle.std.specs.Prelude.{◌==◌}
use Rattle.std.specs.List.{list_all}
use Rattle.std.proofs.lemmas.Bool.{and_parts}
use Rattle.std.proofs.lemmas.Bool.Decides.{nat_tests}
use Rattle.policy_core.specs.Ranges.{list_in_range}
use Rattle.policy_core.specs.Sayable.{is_full_length}
use Rattle.prefix_sets.specs.declared.list.PrefixList.{PrefixList}

both_true : (a b : Bool) → a ≡ true → b ≡ true → (a && b) ≡ true
both_true true b e f = f
both_true false b e f = absurd cc

pub full_in_range : (ls : List PrefixList) → list_all (λ l. list_in_range l && is_full_length l) ls ≡ true → list_all list_in_range ls ≡ true
full_in_range [] h = refl
full_in_range (l ∷ ls) h =
    let parts = and_parts (list_in_range l && is_full_length l) (list_all (λ k. list_in_range k && is_full_length k) ls) h in
    both_true (list_in_range l) (list_all list_in_range ls) (and_parts (list_in_range l) (is_full_length l) parts.0).0 (full_in_range ls parts.1)

pub none_left : {A : Type 0} (xs : List A) → length xs < 1 → xs ≡ []
none_left [] h = refl
none_left (x ∷ xs) h = absurd (omega arith)

pub none_there : {A : Type 0} (xs : List A) → (length xs == 0) ≡ true → xs ≡ []
none_there [] h = refl
none_there (x ∷ xs) h = absurd (grind (arith, nat_tests))
