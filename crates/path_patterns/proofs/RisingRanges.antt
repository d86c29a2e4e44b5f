-- Rising ranges have one form for each set of numbers, and each set has it.
use Rattle.std.proofs.Common.{◌≡◌, refl, sym, ap, subst, ◌∙◌, ℕ, ◌+◌, ◌<◌, ◌≤◌, Bool, true, false, ◌||◌, nat_le, List, [], ◌∷◌, Result, Ok, Err, IfOk, arith}
use Rattle.std.proofs.Math.Bool.{or_assoc}
use Rattle.std.proofs.lemmas.Bool.{and_from, le-leb, leb-true, or_from, true≢false}
use Rattle.std.proofs.lemmas.Bool.Decides.{nat_tests}
use Rattle.path_patterns.specs.Items.{in_range}
use Rattle.path_patterns.specs.MergedRanges.{AreRising, has_number, is_apart, hull, put, rising}
use Rattle.path_patterns.specs.declared.items.NumberRange.{NumberRange}
use Rattle.text_words.specs.declared.memory.Memory.{Memory}
use Rattle.path_patterns.proofs.MergedLaws.{BeginsAbove, rising_front, in_ranges, holds_least}

-- ---- what stands behind a rising range

own_of : (r : NumberRange) (rs : List NumberRange) → AreRising (r ∷ rs) → r.least ≤ r.most
own_of r [] h = h
own_of r (s ∷ ss) h = h.0

above_of : (r : NumberRange) (rs : List NumberRange) → AreRising (r ∷ rs) → BeginsAbove (r.most + 1) rs
above_of r [] h = tt
above_of r (s ∷ ss) h = h.1

behind_of : (r : NumberRange) (rs : List NumberRange) → AreRising (r ∷ rs) → AreRising rs
behind_of r [] h = tt
behind_of r (s ∷ ss) h = h.2

begins_sooner : (m n : ℕ) (rs : List NumberRange) → m ≤ n → BeginsAbove n rs → BeginsAbove m rs
begins_sooner m n [] l h = tt
begins_sooner m n (r ∷ rs) l h = omega (arith, l, h)

none_below : (rs : List NumberRange) (m n : ℕ) → n ≤ m → BeginsAbove m rs → AreRising rs → in_ranges rs n ≡ false
none_below [] m n l above h = refl
none_below (r ∷ rs) m n l above h =
    let e : in_range r n ≡ false = grind (arith, nat_tests) in
    let own = own_of r rs h in
    or_from (in_range r n) (in_ranges rs n) e (none_below rs (r.most + 1) n (omega (arith, l, above, own)) (above_of r rs h) (behind_of r rs h))

-- ---- a range put among rising ones

begins_by : (b c : Bool) (n : ℕ) (r s : NumberRange) (ss : List NumberRange) → n < r.least → n < s.least → BeginsAbove n (put (hull r s) ss)
    → BeginsAbove n (elim b [ true ↦ r ∷ s ∷ ss | false ↦ elim c [ true ↦ s ∷ put r ss | false ↦ put (hull r s) ss ] ])
begins_by true c n r s ss first second more = first
begins_by false true n r s ss first second more = second
begins_by false false n r s ss first second more = more

put_begins : (ss : List NumberRange) (n : ℕ) (r : NumberRange) → n < r.least → BeginsAbove n ss → AreRising ss → BeginsAbove n (put r ss)
unfolding put
put_begins [] n r first above h = first
put_begins (s ∷ ss) n r first above h =
    let own = own_of s ss h in
    begins_by (is_apart r s) (is_apart s r) n r s ss first above
    (put_begins ss n (hull r s) (omega (arith, first, above)) (begins_sooner n (s.most + 1) ss (omega (arith, above, own)) (above_of s ss h)) (behind_of s ss h))

apart_is : (r s : NumberRange) → is_apart r s ≡ true → r.most + 1 < s.least
apart_is r s e = grind (arith, nat_tests)

put_by : (b c : Bool) (r s : NumberRange) (ss : List NumberRange) → is_apart r s ≡ b → is_apart s r ≡ c → r.least ≤ r.most → AreRising (s ∷ ss) → AreRising (put r ss) → AreRising (put (hull r s) ss)
    → AreRising (elim b [ true ↦ r ∷ s ∷ ss | false ↦ elim c [ true ↦ s ∷ put r ss | false ↦ put (hull r s) ss ] ])
put_by true c r s ss e f own h more joined = (own, apart_is r s e, h)
put_by false true r s ss e f own h more joined =
    rising_front s (put r ss) (own_of s ss h) (put_begins ss (s.most + 1) r (apart_is s r f) (above_of s ss h) (behind_of s ss h)) more
put_by false false r s ss e f own h more joined = joined

put_rises : (ss : List NumberRange) (r : NumberRange) → r.least ≤ r.most → AreRising ss → AreRising (put r ss)
unfolding put
put_rises [] r own h = own
put_rises (s ∷ ss) r own h =
    put_by (is_apart r s) (is_apart s r) r s ss refl refl own h (put_rises ss r own (behind_of s ss h))
    (put_rises ss (hull r s) (omega (arith, own, own_of s ss h)) (behind_of s ss h))

hull_holds : (r s : NumberRange) (n : ℕ) → r.least ≤ r.most → s.least ≤ s.most → is_apart r s ≡ false → is_apart s r ≡ false → in_range (hull r s) n ≡ (in_range r n || in_range s n)
hull_holds r s n own other e f = grind (arith, nat_tests)

or_moved : (x y z : Bool) → (y || (x || z)) ≡ (x || (y || z))
or_moved true true z = refl
or_moved true false z = refl
or_moved false y z = refl

holds_by : (b c : Bool) (r s : NumberRange) (ss : List NumberRange) (n : ℕ) → is_apart r s ≡ b → is_apart s r ≡ c → r.least ≤ r.most → s.least ≤ s.most
    → in_ranges (put r ss) n ≡ (in_range r n || in_ranges ss n) → in_ranges (put (hull r s) ss) n ≡ (in_range (hull r s) n || in_ranges ss n)
    → in_ranges (elim b [ true ↦ r ∷ s ∷ ss | false ↦ elim c [ true ↦ s ∷ put r ss | false ↦ put (hull r s) ss ] ]) n ≡ (in_range r n || (in_range s n || in_ranges ss n))
holds_by true c r s ss n e f own other more joined = refl
holds_by false true r s ss n e f own other more joined = ap (λ (b : Bool). in_range s n || b) more ∙ or_moved (in_range r n) (in_range s n) (in_ranges ss n)
holds_by false false r s ss n e f own other more joined =
    joined ∙ ap (λ (b : Bool). b || in_ranges ss n) (hull_holds r s n own other e f) ∙ or_assoc (in_range r n) (in_range s n) (in_ranges ss n)

put_holds : (ss : List NumberRange) (r : NumberRange) (n : ℕ) → r.least ≤ r.most → AreRising ss → in_ranges (put r ss) n ≡ (in_range r n || in_ranges ss n)
unfolding put
put_holds [] r n own h = refl
put_holds (s ∷ ss) r n own h =
    holds_by (is_apart r s) (is_apart s r) r s ss n refl refl own (own_of s ss h) (put_holds ss r n own (behind_of s ss h))
    (put_holds ss (hull r s) n (omega (arith, own, own_of s ss h)) (behind_of s ss h))

-- ---- the rising form

rises_by : (b : Bool) (r : NumberRange) (rs : List NumberRange) → has_number r ≡ b → AreRising rs → AreRising (elim b [ true ↦ put r rs | false ↦ rs ])
rises_by true r rs e h = put_rises rs r (leb-true r.least r.most e) h
rises_by false r rs e h = h

-- it rises
pub rising_rises : (rs : List NumberRange) → AreRising (rising rs)
unfolding rising
rising_rises [] = tt
rising_rises (r ∷ rs) = rises_by (has_number r) r (rising rs) refl (rising_rises rs)

empty_holds : (r : NumberRange) (n : ℕ) → has_number r ≡ false → in_range r n ≡ false
empty_holds r n e = grind (arith, nat_tests)

same_by : (b : Bool) (r : NumberRange) (rs : List NumberRange) (n : ℕ) → has_number r ≡ b → AreRising rs → in_ranges (elim b [ true ↦ put r rs | false ↦ rs ]) n ≡ (in_range r n || in_ranges rs n)
same_by true r rs n e h = put_holds rs r n (leb-true r.least r.most e) h
same_by false r rs n e h = sym (ap (λ (b : Bool). b || in_ranges rs n) (empty_holds r n e))

-- it holds the numbers of the ranges
pub rising_holds : (rs : List NumberRange) (n : ℕ) → in_ranges (rising rs) n ≡ in_ranges rs n
unfolding rising
rising_holds [] n = refl
rising_holds (r ∷ rs) n = same_by (has_number r) r (rising rs) n refl (rising_rises rs) ∙ ap (λ (b : Bool). in_range r n || b) (rising_holds rs n)

-- ---- there is one

or_first : (a b : Bool) → a ≡ true → (a || b) ≡ true
or_first true b e = refl
or_first false b e = absurd (true≢false (sym e))

-- two lists of ranges hold the same numbers
abbrev SameNumbers : List NumberRange → List NumberRange → Type 0
SameNumbers rs ss = (n : ℕ) → in_ranges rs n ≡ in_ranges ss n

not_sooner : (r s : NumberRange) (rs ss : List NumberRange) → AreRising (r ∷ rs) → AreRising (s ∷ ss) → SameNumbers (r ∷ rs) (s ∷ ss) → r.least < s.least → ⊥
not_sooner r s rs ss h k same l =
    true≢false (sym (or_first (in_range r r.least) (in_ranges rs r.least) (holds_least r (own_of r rs h))) ∙ same r.least ∙ none_below (s ∷ ss) r.least r.least (omega arith) l k)

not_shorter : (r s : NumberRange) (rs ss : List NumberRange) → AreRising (r ∷ rs) → AreRising (s ∷ ss) → SameNumbers (r ∷ rs) (s ∷ ss) → r.least ≡ s.least → r.most < s.most → ⊥
not_shorter r s rs ss h k same e l =
    let n : ℕ = r.most + 1 in
    let own = own_of r rs h in
    let there : in_range s n ≡ true = and_from (nat_le s.least n) (nat_le n s.most) (le-leb s.least n (omega (arith, own, e))) (le-leb n s.most (omega (arith, l))) in
    let out : in_range r n ≡ false = grind (arith, nat_tests) in
    true≢false (sym (or_first (in_range s n) (in_ranges ss n) there) ∙ sym (same n) ∙ or_from (in_range r n) (in_ranges rs n) out (none_below rs n n (omega arith) (above_of r rs h) (behind_of r rs h)))

same_behind : (b : Bool) (r : NumberRange) (rs ss : List NumberRange) (n : ℕ) → in_range r n ≡ b → AreRising (r ∷ rs) → AreRising (r ∷ ss) → (in_range r n || in_ranges rs n) ≡ (in_range r n || in_ranges ss n) → in_ranges rs n ≡ in_ranges ss n
same_behind true r rs ss n e h k same =
    let l : n ≤ r.most + 1 = grind (arith, nat_tests) in
    none_below rs (r.most + 1) n l (above_of r rs h) (behind_of r rs h) ∙ sym (none_below ss (r.most + 1) n l (above_of r ss k) (behind_of r ss k))
same_behind false r rs ss n e h k same = sym (ap (λ (b : Bool). b || in_ranges rs n) e) ∙ same ∙ ap (λ (b : Bool). b || in_ranges ss n) e

same_range : (r s : NumberRange) → r.least ≡ s.least → r.most ≡ s.most → r ≡ s
same_range r s e f = ap (λ (x : ℕ). record { least = x; most = r.most }) e ∙ ap (λ (x : ℕ). record { least = s.least; most = x }) f

-- rising ranges that hold the same numbers are the same
pub one_form : (rs ss : List NumberRange) → AreRising rs → AreRising ss → SameNumbers rs ss → rs ≡ ss
one_form [] [] h k same = refl
one_form [] (s ∷ ss) h k same = absurd (true≢false (sym (or_first (in_range s s.least) (in_ranges ss s.least) (holds_least s (own_of s ss k))) ∙ sym (same s.least)))
one_form (r ∷ rs) [] h k same = absurd (true≢false (sym (or_first (in_range r r.least) (in_ranges rs r.least) (holds_least r (own_of r rs h))) ∙ same r.least))
one_form (r ∷ rs) (s ∷ ss) h k same =
    let a = not_sooner r s rs ss h k same in
    let b = not_sooner s r ss rs k h (λ n. sym (same n)) in
    let least : r.least ≡ s.least = omega (arith, a, b) in
    let c = not_shorter r s rs ss h k same least in
    let d = not_shorter s r ss rs k h (λ n. sym (same n)) (sym least) in
    let e : r ≡ s = same_range r s least (omega (arith, c, d)) in
    let k2 : AreRising (r ∷ ss) = subst (λ (x : NumberRange). AreRising (x ∷ ss)) (sym e) k in
    let same2 : SameNumbers (r ∷ rs) (r ∷ ss) = subst (λ (x : NumberRange). SameNumbers (r ∷ rs) (x ∷ ss)) (sym e) same in
    ap (λ (x : NumberRange). x ∷ rs) e ∙ ap (λ (xs : List NumberRange). s ∷ xs) (one_form rs ss (behind_of r rs h) (behind_of s ss k) (λ n. same_behind (in_range r n) r rs ss n refl h k2 (same2 n)))

-- ranges that rise and hold the numbers of others are the rising form of those
pub exact_is : (rs : List NumberRange) (o : Result (List NumberRange) Memory) → IfOk o (λ found. AreRising found × ((n : ℕ) → in_ranges found n ≡ in_ranges rs n)) → IfOk o (λ found. found ≡ rising rs)
exact_is rs (Ok found) h = one_form found (rising rs) h.0 (rising_rises rs) (λ n. h.1 n ∙ sym (rising_holds rs n))
exact_is rs (Err m) h = tt
