-- Numbers in rising order, and the ends of ranges.
use Rattle.std.proofs.Common.{◌≡◌, refl, sym, ap, ◌∙◌, subst, ℕ, zero, suc, ◌+◌, ◌<◌, ◌≤◌, ◌^◌, inl, inr, Bool, true, false, ◌&&◌, ◌||◌, ◌==◌, cond, nat_le, nat_lt, List, [], ◌∷◌, length, get_or, arith, leb-true, leb-false, le-leb, eqb-true}
use Rattle.std.specs.List.{list_any, count_by, AllWithin}
use Rattle.std.specs.List.Sorted.{IsPermutation, IsNonDecreasing, IsPartitionPoint, IsStrictlyIncreasing}
use Rattle.std.proofs.lemmas.Bool.{and_parts, or_cases, or_right, or_left, and_from, cases_eq}
use Rattle.std.proofs.lemmas.Bool.Decides.{nat_tests}
use Rattle.std.proofs.lemmas.List.Sums.{sum_by-cons}
use Rattle.std.proofs.lemmas.List.Sorted.{sum_by-IsPermutation}
use Rattle.std.proofs.lemmas.List.Kept.{AllPairs-from_increasing}
use Rattle.path_patterns.specs.Items.{greatest, in_range, in_set}
use Rattle.path_patterns.specs.declared.items.NumberRange.{NumberRange}
use Rattle.path_patterns.specs.declared.items.NumberSet.{NumberSet}
use Rattle.path_classes.specs.Numbers.{count_below, count_up_to, leasts_of, mosts_of, in_ends, is_whole}

-- ---- counts

abbrev pub one_if : Bool → ℕ
one_if b = cond b 1 0

module _ {X : Type 0} (p : X → Bool) where
  pub count_cons : (x : X) (xs : List X) (b : Bool) → p x ≡ b → count_by p (x ∷ xs) ≡ one_if b + count_by p xs
  count_cons x xs b e = sum_by-cons (λ (y : X). one_if (p y)) x xs ∙ ap (λ (c : Bool). one_if c + count_by p xs) e

  -- what passes stands in front, so the place where it ends is the count
  pub count_point : (xs : List X) (i : ℕ) → i ≤ length xs → AllWithin (λ y. p y ≡ true) xs 0 i → AllWithin (λ y. p y ≡ false) xs i (length xs) → count_by p xs ≡ i
  count_point [] i le front back = omega arith
  count_point (x ∷ xs) zero le front back =
      let more : count_by p xs ≡ 0 = count_point xs zero (omega arith) (λ k d low high. absurd (omega arith)) (λ k d low high. back (suc k) d (omega arith) (omega arith)) in
      let here = count_cons x xs false (back 0 x (omega arith) (omega arith)) in
      omega (arith, here, more)
  count_point (x ∷ xs) (suc i) le front back =
      let more : count_by p xs ≡ i = count_point xs i (omega arith) (λ k d low high. front (suc k) d (omega arith) (omega arith)) (λ k d low high. back (suc k) d (omega arith) (omega arith)) in
      let here = count_cons x xs true (front 0 x (omega arith) (omega arith)) in
      omega (arith, here, more)

  pub count_permuted : (xs ys : List X) → IsPermutation xs ys → count_by p ys ≡ count_by p xs
  count_permuted xs ys moved = sum_by-IsPermutation (λ (y : X). one_if (p y)) xs ys moved

  pub point_counts : (xs : List X) (i : ℕ) → i ≤ length xs → IsPartitionPoint (λ y. p y ≡ true) (λ y. p y ≡ false) xs i → i ≡ count_by p xs
  point_counts xs i le point = sym (count_point xs i le point.0 point.1)

-- ---- order

pub rising_of : (xs : List ℕ) → IsStrictlyIncreasing xs → IsNonDecreasing xs
rising_of xs up i j d le within = elim (cases_eq i j) [
  | inl same ↦ subst (λ (k : ℕ). get_or xs i d ≤ get_or xs k d) same (omega arith)
  | inr apart ↦ omega (arith, AllPairs-from_increasing xs up i j d (omega (arith, apart)) within)
]

rising_tail : (x : ℕ) (xs : List ℕ) → IsNonDecreasing (x ∷ xs) → IsNonDecreasing xs
rising_tail x xs up i j d le within = up (suc i) (suc j) d (omega arith) (omega arith)

-- ---- ends of ranges

-- one more range that has numbers
one_range : (a b l m n : ℕ) → l ≤ m → b ≤ a → nat_lt (one_if (nat_lt m n) + b) (one_if (nat_le l n) + a) ≡ ((nat_le l n && nat_le n m) || nat_lt b a)
one_range a b l m n has le = grind (arith, nat_tests)

one_range_le : (a b l m n : ℕ) → l ≤ m → b ≤ a → one_if (nat_lt m n) + b ≤ one_if (nat_le l n) + a
one_range_le a b l m n has le = grind (arith, nat_tests)

-- a range that has none
no_range : (l m n : ℕ) → m < l → (nat_le l n && nat_le n m) ≡ false
no_range l m n h = grind (arith, nat_tests)

record IsCounted (rs : List NumberRange) (leasts mosts : List ℕ) (n : ℕ) : Type 0 where
  pub less : count_below n mosts ≤ count_up_to n leasts
  pub same : in_ends leasts mosts n ≡ list_any (λ r. in_range r n) rs

counted : (rs : List NumberRange) (n : ℕ) → IsCounted rs (leasts_of rs) (mosts_of rs) n
unfolding leasts_of mosts_of
counted [] n = record { less = omega arith; same = refl }
counted (r ∷ rs) n = at (nat_le r.least r.most) refl (counted rs n)
  where
    at : (b : Bool) → nat_le r.least r.most ≡ b → IsCounted rs (leasts_of rs) (mosts_of rs) n
        → IsCounted (r ∷ rs) (elim b [ true ↦ r.least ∷ leasts_of rs | false ↦ leasts_of rs ]) (elim b [ true ↦ r.most ∷ mosts_of rs | false ↦ mosts_of rs ]) n
    at true e more =
        let has = leb-true r.least r.most e in
        let begun = count_cons (λ (x : ℕ). nat_le x n) r.least (leasts_of rs) (nat_le r.least n) refl in
        let ended = count_cons (λ (x : ℕ). nat_lt x n) r.most (mosts_of rs) (nat_lt r.most n) refl in
        record {
          less = rw (begun, ended) (one_range_le (count_up_to n (leasts_of rs)) (count_below n (mosts_of rs)) r.least r.most n has more.less);
          same = rw (begun, ended) (one_range (count_up_to n (leasts_of rs)) (count_below n (mosts_of rs)) r.least r.most n has more.less) ∙ ap (λ (c : Bool). in_range r n || c) more.same;
        }
    at false e more = record {
      less = more.less;
      same = more.same ∙ ap (λ (c : Bool). c || list_any (λ s. in_range s n) rs) (sym (no_range r.least r.most n (leb-false r.least r.most e)));
    }

-- sorted ends tell the numbers of a set
pub ends_tell : (set : NumberSet) (firsts lasts leasts mosts : List ℕ) (n : ℕ) → firsts ≡ leasts_of set.ranges → lasts ≡ mosts_of set.ranges
    → IsPermutation firsts leasts → IsPermutation lasts mosts → in_ends leasts mosts n ≡ in_set set n
ends_tell set firsts lasts leasts mosts n first last begun ended =
    let begins : count_up_to n leasts ≡ count_up_to n (leasts_of set.ranges) = count_permuted (λ (x : ℕ). nat_le x n) firsts leasts begun ∙ ap (λ (xs : List ℕ). count_up_to n xs) first in
    let ends : count_below n mosts ≡ count_below n (mosts_of set.ranges) = count_permuted (λ (x : ℕ). nat_lt x n) lasts mosts ended ∙ ap (λ (xs : List ℕ). count_below n xs) last in
    (λ i. nat_lt (ends i) (begins i)) ∙ (counted set.ranges n).same

-- a set that is whole has all numbers
pub whole_holds : (set : NumberSet) (n : ℕ) → is_whole set ≡ true → n < 2 ^ 32 → in_set set n ≡ true
whole_holds set n e below = at set.ranges e
  where
    here : (r : NumberRange) → (r.least == 0 && r.most == greatest) ≡ true → in_range r n ≡ true
    here r h =
        let parts = and_parts (r.least == 0) (r.most == greatest) h in
        let least = eqb-true r.least 0 parts.0 in
        let most = eqb-true r.most greatest parts.1 in
        and_from (nat_le r.least n) (nat_le n r.most) (le-leb r.least n (omega (arith, least))) (le-leb n r.most (omega (arith, most)))

    at : (rs : List NumberRange) → list_any (λ r. r.least == 0 && r.most == greatest) rs ≡ true → list_any (λ r. in_range r n) rs ≡ true
    at [] h = absurd cc
    at (r ∷ rs) h = elim (or_cases (r.least == 0 && r.most == greatest) (list_any (λ s. s.least == 0 && s.most == greatest) rs) h) [
      | inl this ↦ or_left (in_range r n) (list_any (λ s. in_range s n) rs) (here r this)
      | inr other ↦ or_right (in_range r n) (list_any (λ s. in_range s n) rs) (at rs other)
    ]
