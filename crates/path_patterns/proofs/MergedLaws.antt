-- Ranges that are joined hold the numbers that they held apart; in order, they rise.
use Rattle.std.proofs.Common.{◌≡◌, refl, sym, ap, subst, ◌∙◌, ℕ, suc, ◌+◌, ◌<◌, ◌≤◌, Bool, true, false, not, ◌||◌, List, [], ◌∷◌, Result, Ok, Err, IfOk, arith, filter, nat_le}
use Rattle.std.specs.List.{list_any}
use Rattle.std.specs.List.Sorted.{IsPermutation, IsNonDecreasingBy}
use Rattle.std.proofs.Math.Bool.{or_assoc}
use Rattle.std.proofs.lemmas.Bool.{and_from, le-leb, leb-true, or_parts, or_from, not-true, not-false}
use Rattle.std.proofs.lemmas.Bool.Decides.{nat_tests}
use Rattle.std.proofs.lemmas.List.Sorted.{list_any-IsPermutation}
use Rattle.std.proofs.lemmas.Map.Views.{any-filter_same}
use Rattle.path_patterns.specs.Items.{in_range}
use Rattle.path_patterns.specs.MergedRanges.{AreRising, AreInOrder, has_number, is_wide, touches, both_ranges, joined_from, joined}
use Rattle.path_patterns.specs.declared.items.NumberRange.{NumberRange}
use Rattle.text_words.specs.declared.memory.Memory.{Memory}

-- ---- the order

-- the first range, if there is one, begins above a number
abbrev pub BeginsAbove : ℕ → List NumberRange → Type 0
BeginsAbove n [] = Unit {0}
BeginsAbove n (r ∷ rs) = n < r.least

begins_by : (n : ℕ) (r s : NumberRange) (ss : List NumberRange) (b : Bool) → n < r.least → BeginsAbove n (joined_from (both_ranges r s) ss) → BeginsAbove n (elim b [ true ↦ joined_from (both_ranges r s) ss | false ↦ r ∷ joined_from s ss ])
begins_by n r s ss true l more = more
begins_by n r s ss false l more = l

begins_above : (n : ℕ) (r : NumberRange) (rs : List NumberRange) → n < r.least → BeginsAbove n (joined_from r rs)
unfolding joined_from
begins_above n r [] l = l
begins_above n r (s ∷ ss) l = begins_by n r s ss (touches r s) l (begins_above n (both_ranges r s) ss l)

pub rising_front : (r : NumberRange) (rs : List NumberRange) → r.least ≤ r.most → BeginsAbove (r.most + 1) rs → AreRising rs → AreRising (r ∷ rs)
rising_front r [] own above more = own
rising_front r (s ∷ ss) own above more = (own, above, more)

own_of : (r : NumberRange) (rs : List NumberRange) → AreInOrder (r ∷ rs) → r.least ≤ r.most
own_of r [] h = h
own_of r (s ∷ ss) h = h.0

in_order_both : (r s : NumberRange) (ss : List NumberRange) → AreInOrder (r ∷ s ∷ ss) → AreInOrder (both_ranges r s ∷ ss)
in_order_both r s [] h = omega (arith, h.0, h.1, h.2)
in_order_both r s (t ∷ ts) h = (omega (arith, h.0, h.1), omega (arith, h.1, h.2.1), h.2.2)

begins_behind : (r s : NumberRange) → touches r s ≡ false → r.least ≤ s.least → r.most + 1 < s.least
begins_behind r s e h = grind (arith, nat_tests)

rises_by : (r s : NumberRange) (ss : List NumberRange) (b : Bool) → touches r s ≡ b → AreInOrder (r ∷ s ∷ ss) → AreRising (joined_from (both_ranges r s) ss) → AreRising (joined_from s ss) → AreRising (elim b [ true ↦ joined_from (both_ranges r s) ss | false ↦ r ∷ joined_from s ss ])
rises_by r s ss true e h joined apart = joined
rises_by r s ss false e h joined apart =
    rising_front r (joined_from s ss) h.0 (begins_above (r.most + 1) s ss (begins_behind r s e h.1)) apart

-- the joined ranges rise
pub joined_rises : (r : NumberRange) (rs : List NumberRange) → AreInOrder (r ∷ rs) → AreRising (joined_from r rs)
unfolding joined_from
joined_rises r [] h = h
joined_rises r (s ∷ ss) h =
    rises_by r s ss (touches r s) refl h (joined_rises (both_ranges r s) ss (in_order_both r s ss h)) (joined_rises s ss h.2)

-- ---- the numbers

-- one of the ranges holds the number
abbrev pub in_ranges : List NumberRange → ℕ → Bool
in_ranges rs n = list_any (λ r. in_range r n) rs

-- a range with a number holds its least one
pub holds_least : (r : NumberRange) → r.least ≤ r.most → in_range r r.least ≡ true
holds_least r h = and_from (nat_le r.least r.least) (nat_le r.least r.most) (le-leb r.least r.least (omega arith)) (le-leb r.least r.most h)

both_hold : (r s : NumberRange) (n : ℕ) → touches r s ≡ true → in_range (both_ranges r s) n ≡ (in_range r n || in_range s n)
both_hold r s n e = grind (arith, nat_tests)

holds_by : (t : Bool) (r s : NumberRange) (ss : List NumberRange) (n : ℕ) → touches r s ≡ t
    → ((x : NumberRange) → in_ranges (joined_from x ss) n ≡ (in_range x n || in_ranges ss n))
    → in_ranges (elim t [ true ↦ joined_from (both_ranges r s) ss | false ↦ r ∷ joined_from s ss ]) n ≡ (in_range r n || (in_range s n || in_ranges ss n))
holds_by true r s ss n e more =
    more (both_ranges r s) ∙ ap (λ (b : Bool). b || in_ranges ss n) (both_hold r s n e) ∙ or_assoc (in_range r n) (in_range s n) (in_ranges ss n)
holds_by false r s ss n e more = ap (λ (b : Bool). in_range r n || b) (more s)

joined_from_holds : (rs : List NumberRange) (n : ℕ) (r : NumberRange) → in_ranges (joined_from r rs) n ≡ (in_range r n || in_ranges rs n)
unfolding joined_from
joined_from_holds [] n r = refl
joined_from_holds (s ∷ ss) n r = holds_by (touches r s) r s ss n refl (joined_from_holds ss n)

-- the joined ranges hold the numbers of the ranges
pub joined_holds : (rs : List NumberRange) (n : ℕ) → in_ranges (joined rs) n ≡ in_ranges rs n
joined_holds [] n = refl
joined_holds (r ∷ rs) n = joined_from_holds rs n r

-- ---- put in order

in_order_of : (rs : List NumberRange) → list_any (λ r. not (has_number r)) rs ≡ false → IsNonDecreasingBy (λ r. r.least) rs → AreInOrder rs
in_order_of [] own h = tt
in_order_of (r ∷ []) own h =
    let p = or_parts (not (has_number r)) false own in
    leb-true r.least r.most (not-false (has_number r) p.0)
in_order_of (r ∷ s ∷ ss) own h =
    let p = or_parts (not (has_number r)) (list_any (λ x. not (has_number x)) (s ∷ ss)) own in
    (leb-true r.least r.most (not-false (has_number r) p.0), h 0 1 r (omega arith) (omega arith), in_order_of (s ∷ ss) p.1 (λ i j e a b. h (suc i) (suc j) e (omega arith) (omega arith)))

-- the ranges with a number, sorted by their least numbers, are in order
pub sorted_in_order : (rs ss : List NumberRange) → IsPermutation (filter has_number rs) ss → IsNonDecreasingBy (λ r. r.least) ss → AreInOrder ss
sorted_in_order rs ss moved sorted =
    in_order_of ss
    (sym (list_any-IsPermutation (λ r. not (has_number r)) (filter has_number rs) ss moved) ∙ any-filter_same (λ r. not (has_number r)) has_number false (λ r e. not-true (has_number r) e) rs)
    sorted

pub range_has : (r : NumberRange) (n : ℕ) → in_range r n ≡ true → has_number r ≡ true
range_has r n e = grind arith

-- and they hold the numbers of all the ranges
pub sorted_same : (rs ss : List NumberRange) (n : ℕ) → IsPermutation (filter has_number rs) ss → list_any (λ r. in_range r n) ss ≡ list_any (λ r. in_range r n) rs
sorted_same rs ss n moved =
    sym (list_any-IsPermutation (λ r. in_range r n) (filter has_number rs) ss moved)
    ∙ any-filter_same (λ r. in_range r n) has_number true (λ r e. range_has r n e) rs

-- ranges in order, joined, rise and hold the same numbers
pub joined_is : (rs : List NumberRange) → AreInOrder rs → AreRising (joined rs) × ((n : ℕ) → list_any (λ r. in_range r n) (joined rs) ≡ list_any (λ r. in_range r n) rs)
joined_is [] h = (tt, joined_holds [])
joined_is (r ∷ rs) h = (joined_rises r rs h, joined_holds (r ∷ rs))

-- what is made of the ranges of a set, put in order
pub merged_is : (rs ordered : List NumberRange) (o : Result (List NumberRange) Memory) → IfOk o (λ found. found ≡ joined ordered) → AreInOrder ordered → ((n : ℕ) → list_any (λ r. in_range r n) ordered ≡ list_any (λ r. in_range r n) rs) → IfOk o (λ found. AreRising found × ((n : ℕ) → list_any (λ r. in_range r n) found ≡ list_any (λ r. in_range r n) rs))
merged_is rs ordered (Ok found) e h same =
    let j = joined_is ordered h in
    subst (λ (x : List NumberRange). AreRising x × ((n : ℕ) → list_any (λ r. in_range r n) x ≡ list_any (λ r. in_range r n) rs)) (sym e) (j.0, λ n. j.1 n ∙ same n)
merged_is rs ordered (Err m) e h same = tt

-- ---- numbers of 32 bits

wide_both : (r s : NumberRange) → is_wide r ≡ false → is_wide s ≡ false → is_wide (both_ranges r s) ≡ false
wide_both r s e f = grind arith

bounded_by : (r s : NumberRange) (ss : List NumberRange) (b : Bool) → is_wide r ≡ false → list_any is_wide (joined_from (both_ranges r s) ss) ≡ false → list_any is_wide (joined_from s ss) ≡ false → list_any is_wide (elim b [ true ↦ joined_from (both_ranges r s) ss | false ↦ r ∷ joined_from s ss ]) ≡ false
bounded_by r s ss true e joined apart = joined
bounded_by r s ss false e joined apart = or_from (is_wide r) (list_any is_wide (joined_from s ss)) e apart

joined_bounded : (r : NumberRange) (rs : List NumberRange) → list_any is_wide (r ∷ rs) ≡ false → list_any is_wide (joined_from r rs) ≡ false
unfolding joined_from
joined_bounded r [] h = h
joined_bounded r (s ∷ ss) h =
    let p = or_parts (is_wide r) (list_any is_wide (s ∷ ss)) h in
    let q = or_parts (is_wide s) (list_any is_wide ss) p.1 in
    bounded_by r s ss (touches r s) p.0
    (joined_bounded (both_ranges r s) ss (or_from (is_wide (both_ranges r s)) (list_any is_wide ss) (wide_both r s p.0 q.0) q.1))
    (joined_bounded s ss p.1)

all_bounded : (rs : List NumberRange) → list_any is_wide rs ≡ false → list_any is_wide (joined rs) ≡ false
all_bounded [] h = h
all_bounded (r ∷ rs) h = joined_bounded r rs h

-- what is made of ranges of 32 bits has 32 bits
pub bounded_is : (ordered : List NumberRange) (o : Result (List NumberRange) Memory) → IfOk o (λ found. found ≡ joined ordered) → list_any is_wide ordered ≡ false → IfOk o (λ found. list_any is_wide found ≡ false)
bounded_is ordered (Ok found) e h = ap (λ (rs : List NumberRange). list_any is_wide rs) e ∙ all_bounded ordered h
bounded_is ordered (Err m) e h = tt
