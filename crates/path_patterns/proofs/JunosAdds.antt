-- What is written for an item, by its ranges and its count, and what is written for a list of items.
use Rattle.std.proofs.Common.{◌≡◌, refl, sym, subst, ◌∙◌, ℕ, suc, ◌-◌, ◌≤◌, Bool, true, false, not, ◌&&◌, ◌||◌, ◌==◌, nat_le, List, [], ◌∷◌, ◌++◌, length, map, get_or, take, drop, Option, Some, None, arith, inl, inr, ◌⊎◌, append-nil}
use Rattle.std.specs.List.{list_any, AllByRecursion}
use Rattle.std.proofs.lemmas.Bool.{leb-true, leb-false, ltb-false, eq-eqb, eqb-true, not-false, and_parts, and_from, or_parts}
use Rattle.std.proofs.lemmas.List.{take_all, map-append}
use Rattle.path_patterns.specs.Items.{Takes, AtMost, Taken, in_range, in_set, takes_of}
use Rattle.path_patterns.specs.JunosItems.{HasNumbers, IsWritable, never_taken, takes_none, items_of, Adds, Writes}
use Rattle.path_patterns.specs.Counts.{is_above, is_nothing}
use Rattle.path_patterns.specs.SamePaths.{SamePaths}
use Rattle.path_patterns.specs.MergedRanges.{AreRising, is_wide}
use Rattle.path_patterns.specs.declared.items.NumberRange.{NumberRange}
use Rattle.path_patterns.specs.declared.items.NumberSet.{NumberSet}
use Rattle.path_patterns.specs.declared.items.TokenItem.{TokenItem}
use Rattle.path_patterns.proofs.Lists.{all_append}
use Rattle.path_patterns.proofs.TakesLaws.{NoneFits, TakesNever, takes_nothing, takes_never}
use Rattle.path_patterns.proofs.CountLaws.{at_most_of, above_found, nothing_found}
use Rattle.path_patterns.proofs.SamePaths.{same_sym, same_trans, same_behind_all, never_behind}
use Rattle.path_patterns.proofs.JunosItemsLaws.{turn, taking, taking_both, items_alike, items_writable}

-- ---- the ranges

-- ranges that hold the numbers of a set
abbrev pub SameNumbers : List NumberRange → NumberSet → Type 0
SameNumbers rs set = (n : ℕ) → list_any (λ r. in_range r n) rs ≡ in_set set n

same_takes : (i : TokenItem) (rs : List NumberRange) → SameNumbers rs i.set → turn rs i.least i.most ≡ takes_of i
same_takes i rs same = λ k. record { fits = λ n. same n k; least = i.least; most = i.most }

have_numbers : (rs : List NumberRange) → AreRising rs → list_any is_wide rs ≡ false → AllByRecursion HasNumbers rs
have_numbers [] h wide = tt
have_numbers (r ∷ []) h wide =
    let p = or_parts (is_wide r) false wide in
    ((h, ltb-false 4294967295 r.most p.0), tt)
have_numbers (r ∷ s ∷ rs) h wide =
    let p = or_parts (is_wide r) (list_any is_wide (s ∷ rs)) wide in
    ((h.0, ltb-false 4294967295 r.most p.0), have_numbers (s ∷ rs) h.2 p.1)

no_number : (rs : List NumberRange) (set : NumberSet) → SameNumbers rs set → not (length rs == 0) ≡ false → (n : ℕ) → in_set set n ≡ false
no_number [] set same e n = sym (same n)
no_number (r ∷ rs) set same e n =
    let zero : suc (length rs) ≡ 0 = eqb-true (suc (length rs)) 0 (not-false (suc (length rs) == 0) e) in
    absurd (omega (arith, zero))

-- ---- the count

some_by : (n : ℕ) → true ≡ not (n == 0) → 1 ≤ n
some_by n e = grind arith

some_of : (has : Bool) (least : ℕ) (most : Option ℕ) (n : ℕ) → has ≡ not (n == 0) → never_taken has least most ≡ false → takes_none has least most ≡ false → 1 ≤ n
some_of true least most n e never none = some_by n e
some_of false least most n e never none =
    let p = or_parts (is_above least most) (nat_le 1 least) never in
    let zero : (least == 0) ≡ true = eq-eqb least 0 (omega (arith, leb-false 1 least p.1)) in
    let yes : ((least == 0) && true) ≡ true = and_from (least == 0) true zero refl in
    absurd cc

-- ---- an item

-- the items of a count are put behind those there
pub adds_count : (i : TokenItem) (rs : List NumberRange) (before now : List TokenItem) (has : Bool) → has ≡ not (length rs == 0) → AreRising rs → SameNumbers rs i.set → list_any is_wide rs ≡ false → never_taken has i.least i.most ≡ false → takes_none has i.least i.most ≡ false → now ≡ before ++ items_of rs i.least i.most → Adds i before now true
adds_count i rs before now has e rising same wide never none put =
    let p = or_parts (is_above i.least i.most) (not has && nat_le 1 i.least) never in
    let bound : AtMost i.least i.most = at_most_of i.least i.most p.0 in (
      items_of rs i.least i.most,
      put,
      items_writable rs i.least i.most (some_of has i.least i.most (length rs) e never none, have_numbers rs rising wide) bound,
      λ ts. subst (λ (t : Takes). SamePaths (taking (items_of rs i.least i.most) ts) (t ∷ ts)) (same_takes i rs same) (items_alike rs i.least i.most ts bound),
    )

never_by : (i : TokenItem) (rs : List NumberRange) (has below : Bool) → has ≡ not (length rs == 0) → SameNumbers rs i.set → is_above i.least i.most ≡ below → (below || (not has && nat_le 1 i.least)) ≡ true → TakesNever (takes_of i)
never_by i rs has true e same ends h = inl (above_found i.least i.most ends)
never_by i rs true false e same ends h = absurd cc
never_by i rs false false e same ends h = inr (leb-true 1 i.least h, λ n small. no_number rs i.set same (sym e) n)

-- nothing at all is taken
pub adds_never : (i : TokenItem) (rs : List NumberRange) (before : List TokenItem) (has : Bool) → has ≡ not (length rs == 0) → SameNumbers rs i.set → never_taken has i.least i.most ≡ true → Adds i before before false
adds_never i rs before has e same h = λ ts path within taken.
    takes_never (takes_of i) ts path (never_by i rs has (is_above i.least i.most) e same refl h) within taken

none_by : (i : TokenItem) (rs : List NumberRange) (has : Bool) → has ≡ not (length rs == 0) → SameNumbers rs i.set → (not has || is_nothing i.most) ≡ true → NoneFits (takes_of i) ⊎ (i.most ≡ Some 0)
none_by i rs true e same h = inr (nothing_found i.most h)
none_by i rs false e same h = inl (λ n small. no_number rs i.set same (sym e) n)

-- no number is taken, and nothing is put
pub adds_none : (i : TokenItem) (rs : List NumberRange) (before : List TokenItem) (has : Bool) → has ≡ not (length rs == 0) → SameNumbers rs i.set → takes_none has i.least i.most ≡ true → Adds i before before true
adds_none i rs before has e same h =
    let p = and_parts (i.least == 0) (not has || is_nothing i.most) h in (
      [],
      sym (append-nil before),
      tt,
      λ ts. same_sym (takes_of i ∷ ts) ts (λ path within. takes_nothing (takes_of i) ts path (eqb-true i.least 0 p.0, none_by i rs has e same p.1) within),
    )

-- ---- a list of items

-- so far the items found and those that are left take what all take
abbrev pub GoesOn : List TokenItem → List TokenItem → List TokenItem → Type 0
GoesOn found rest all = SamePaths (map takes_of (found ++ rest)) (map takes_of all)

front_of : (found : List TokenItem) (i : TokenItem) (rest : List TokenItem) → map takes_of (found ++ (i ∷ rest)) ≡ map takes_of found ++ (takes_of i ∷ map takes_of rest)
front_of found i rest = map-append takes_of found (i ∷ rest)

added_front : (found more rest : List TokenItem) → map takes_of ((found ++ more) ++ rest) ≡ map takes_of found ++ (map takes_of more ++ map takes_of rest)
added_front found more rest = map-append takes_of (found ++ more) rest ∙ taking_both found more (map takes_of rest)

stopped : (found now rest all : List TokenItem) (i : TokenItem) → Adds i found now false → GoesOn found (i ∷ rest) all → Writes all None
stopped found now rest all i adds goes path within taken =
    never_behind (map takes_of found) (takes_of i ∷ map takes_of rest) (adds (map takes_of rest)) path within
    (subst (λ (ts : List Takes). Taken ts path) (front_of found i rest) ((goes path within).1 taken))

went : (found now rest all : List TokenItem) (i : TokenItem) → Adds i found now true → GoesOn found (i ∷ rest) all → GoesOn now rest all
went found now rest all i (more, put, can, alike) goes =
    subst (λ (js : List TokenItem). SamePaths (map takes_of (js ++ rest)) (map takes_of all)) (sym put)
    (subst (λ (ts : List Takes). SamePaths ts (map takes_of all)) (sym (added_front found more rest))
    (same_trans (map takes_of found ++ (map takes_of more ++ map takes_of rest)) (map takes_of found ++ (takes_of i ∷ map takes_of rest)) (map takes_of all)
    (same_behind_all (map takes_of found) (map takes_of more ++ map takes_of rest) (takes_of i ∷ map takes_of rest) (alike (map takes_of rest)))
    (subst (λ (ts : List Takes). SamePaths ts (map takes_of all)) (front_of found i rest) goes)))

-- the first of the items that are left takes nothing at all
pub stops : (found now rest all : List TokenItem) (i : TokenItem) (answer : Bool) → 1 ≤ length rest → i ≡ get_or rest 0 i → answer ≡ false → Adds i found now answer → GoesOn found rest all → Writes all None
stops found now [] all i answer some first none adds goes = absurd (omega (arith, some))
stops found now (j ∷ rest) all i answer some first none adds goes =
    stopped found now rest all j (subst (λ (k : TokenItem). Adds k found now false) first (subst (λ (b : Bool). Adds i found now b) none adds)) goes

writable_by : (found now : List TokenItem) (i : TokenItem) → Adds i found now true → AllByRecursion IsWritable found → AllByRecursion IsWritable now
writable_by found now i (more, put, can, alike) h = subst (λ (js : List TokenItem). AllByRecursion IsWritable js) (sym put) (all_append IsWritable found more h can)

-- the items that were put can be written
pub stays_writable : (found now : List TokenItem) (i : TokenItem) (answer : Bool) → answer ≡ true → Adds i found now answer → AllByRecursion IsWritable found → AllByRecursion IsWritable now
stays_writable found now i answer e adds h = writable_by found now i (subst (λ (b : Bool). Adds i found now b) e adds) h

-- the loop goes on behind the first of the items that are left
pub goes : (found now rest all : List TokenItem) (i : TokenItem) (answer : Bool) (m : ℕ) → 1 ≤ length rest → i ≡ get_or rest 0 i → m ≡ length rest - 1 → answer ≡ true → Adds i found now answer → GoesOn found rest all → GoesOn now (take m (drop 1 rest)) all
goes found now [] all i answer m some first count e adds so_far = absurd (omega (arith, some))
goes found now (j ∷ rest) all i answer m some first count e adds so_far =
    subst (λ (js : List TokenItem). GoesOn now js all) (sym (take_all m rest (omega (arith, count))))
    (went found now rest all j (subst (λ (k : TokenItem). Adds k found now true) first (subst (λ (b : Bool). Adds i found now b) e adds)) so_far)
