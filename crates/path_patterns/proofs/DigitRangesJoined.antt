-- The runs of a set of digits hold its digits.
use Rattle.std.proofs.Common.{◌≡◌, refl, sym, ap, ◌∙◌, ℕ, Bool, true, false, ◌&&◌, ◌||◌, nat_le, List, [], ◌∷◌, arith}
use Rattle.std.specs.Prelude.{◌==◌}
use Rattle.std.specs.List.{list_any}
use Rattle.std.proofs.lemmas.Bool.{eqb-true}
use Rattle.std.proofs.lemmas.Bool.Decides.{nat_tests}
use Rattle.path_patterns.specs.PathItems.{has_digit}
use Rattle.path_patterns.specs.DigitRanges.{between, chosen, runs, all_digits, front_digits}
use Rattle.path_patterns.specs.declared.pattern.DigitSet.{DigitSet}
use Rattle.path_patterns.proofs.MergedLaws.{in_ranges, joined_holds}

one_number : (d n : ℕ) → (nat_le d n && nat_le n d) ≡ (d == n)
one_number d n = grind (arith, nat_tests)

kept : (x y h : Bool) → (x ≡ true → h ≡ true) → (x || (y && h)) ≡ ((x || y) && h)
kept true y true f = refl
kept true y false f = sym (f refl)
kept false y h f = refl

left_out : (x y h : Bool) → (x ≡ true → h ≡ false) → (y && h) ≡ ((x || y) && h)
left_out true true h f = refl
left_out true false true f = sym (f refl)
left_out true false false f = refl
left_out false y h f = refl

same_digit : (s : DigitSet) (d n : ℕ) (t : Bool) → has_digit s d ≡ t → (d == n) ≡ true → has_digit s n ≡ t
same_digit s d n t e k = ap (has_digit s) (sym (eqb-true d n k)) ∙ e

chosen_test : (t : Bool) (s : DigitSet) (d : ℕ) (ds : List ℕ) (n : ℕ) → has_digit s d ≡ t
    → in_ranges (chosen s ds) n ≡ (list_any (λ e. e == n) ds && has_digit s n)
    → in_ranges (elim t [ true ↦ between d d ∷ chosen s ds | false ↦ chosen s ds ]) n ≡ (((d == n) || list_any (λ e. e == n) ds) && has_digit s n)
chosen_test true s d ds n e more =
    ap (λ (b : Bool). b || in_ranges (chosen s ds) n) (one_number d n)
    ∙ ap (λ (b : Bool). (d == n) || b) more
    ∙ kept (d == n) (list_any (λ e. e == n) ds) (has_digit s n) (same_digit s d n true e)
chosen_test false s d ds n e more = more ∙ left_out (d == n) (list_any (λ e. e == n) ds) (has_digit s n) (same_digit s d n false e)

chosen_holds : (s : DigitSet) (ds : List ℕ) (n : ℕ) → in_ranges (chosen s ds) n ≡ (list_any (λ d. d == n) ds && has_digit s n)
unfolding chosen
chosen_holds s [] n = refl
chosen_holds s (d ∷ ds) n = chosen_test (has_digit s d) s d ds n refl (chosen_holds s ds n)

runs_hold : (s : DigitSet) (ds : List ℕ) (n : ℕ) → in_ranges (runs s ds) n ≡ (list_any (λ d. d == n) ds && has_digit s n)
runs_hold s ds n = joined_holds (chosen s ds) n ∙ chosen_holds s ds n

is_front : (n : ℕ) → list_any (λ d. d == n) front_digits ≡ (nat_le 1 n && nat_le n 9)
is_front n = grind (arith, nat_tests)

is_any : (n : ℕ) → list_any (λ d. d == n) all_digits ≡ nat_le n 9
is_any n = grind (arith, nat_tests)

pub all_runs_hold : (s : DigitSet) (n : ℕ) → in_ranges (runs s all_digits) n ≡ (nat_le n 9 && has_digit s n)
all_runs_hold s n = runs_hold s all_digits n ∙ ap (λ (b : Bool). b && has_digit s n) (is_any n)

pub front_runs_hold : (s : DigitSet) (n : ℕ) → in_ranges (runs s front_digits) n ≡ ((nat_le 1 n && nat_le n 9) && has_digit s n)
front_runs_hold s n = runs_hold s front_digits n ∙ ap (λ (b : Bool). b && has_digit s n) (is_front n)
