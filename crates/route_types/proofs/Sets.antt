-- Sets of communities of any sort: a list in rising order without repeats is determined by its members, so
-- the set of a list is the set of the same list in another order, and the laws of filters and changes follow.
use Rattle.std.proofs.Common.{◌≡◌, refl, sym, ap, subst, ◌∙◌, ℕ, ◌<◌, Bool, true, false, cond, ◌||◌, ◌&&◌, List, [], ◌∷◌, arith, inl, inr, ◌⊎◌, append_assoc}
use Rattle.std.specs.Prelude.{◌==◌, not, filter, ◌++◌}
use Rattle.std.specs.List.{list_any}
use Rattle.std.specs.List.Sorted.{IsPermutation}
use Rattle.std.proofs.lemmas.Bool.{cases_order, eq-eqb, ne_eqb, lt-ltb, le-ltb, or_from}
use Rattle.std.proofs.lemmas.List.Elements.{filter-append}
use Rattle.std.proofs.lemmas.List.Folds.{list_any-append}
use Rattle.std.proofs.lemmas.List.Sorted.{list_any-IsPermutation}
use Rattle.route_types.specs.declared.community.Community.{Community}
use Rattle.route_types.specs.Sets.{with_member_by, set_by, fits_some, set_after_by, IsAscendingBy}
use Rattle.route_types.specs.Community.{RectParts, fits, number, with_member, set_of, set_after, IsAscending}

-- the number tells communities apart
abbrev pub Tells : {C : Type 0} → (C → ℕ) → Type 0
Tells {C} number = (c d : C) → number c ≡ number d → c ≡ d

-- the first member, if there is one, is above the number
abbrev IsBelowFirst : {C : Type 0} → (C → ℕ) → ℕ → List C → Type 0
IsBelowFirst number n [] = Unit {0}
IsBelowFirst number n (c ∷ cs) = n < number c

first_below : {C : Type 0} (number : C → ℕ) (c : C) (cs : List C) → IsAscendingBy number (c ∷ cs) → IsBelowFirst number (number c) cs
first_below number c [] h = tt
first_below number c (d ∷ ds) h = h.0

pub ascending_behind : {C : Type 0} (number : C → ℕ) (c : C) (cs : List C) → IsAscendingBy number (c ∷ cs) → IsAscendingBy number cs
ascending_behind number c [] h = tt
ascending_behind number c (d ∷ ds) h = h.1

ascending_from : {C : Type 0} (number : C → ℕ) (c : C) (cs : List C) → IsBelowFirst number (number c) cs → IsAscendingBy number cs → IsAscendingBy number (c ∷ cs)
ascending_from number c [] b h = tt
ascending_from number c (d ∷ ds) b h = (b, h)

lower : {C : Type 0} (number : C → ℕ) (n : ℕ) (c : C) (cs : List C) → n < number c → IsBelowFirst number (number c) cs → IsBelowFirst number n cs
lower number n c [] l b = tt
lower number n c (d ∷ ds) l b = omega (arith, l, b)

-- ---- the place of a new member c before the member d

pub put_before : {C : Type 0} (number : C → ℕ) (c d : C) (ds : List C) → number c < number d → with_member_by number c (d ∷ ds) ≡ c ∷ d ∷ ds
put_before number c d ds h = rw (lt-ltb (number c) (number d) h) refl

pub put_behind : {C : Type 0} (number : C → ℕ) (c d : C) (ds : List C) → number d < number c → with_member_by number c (d ∷ ds) ≡ d ∷ with_member_by number c ds
put_behind number c d ds h = rw (le-ltb (number c) (number d) (omega arith), lt-ltb (number d) (number c) h) refl

pub put_there : {C : Type 0} (number : C → ℕ) (c d : C) (ds : List C) → number c ≡ number d → with_member_by number c (d ∷ ds) ≡ d ∷ ds
put_there number c d ds h = rw (le-ltb (number c) (number d) (omega arith), le-ltb (number d) (number c) (omega arith)) refl

abbrev pub Order : ℕ → ℕ → Type 0
Order a b = (a ≡ b) ⊎ ((a < b) ⊎ (b < a))

-- ---- the set of a list is in rising order and without repeats

below_first_at : {C : Type 0} (number : C → ℕ) (n : ℕ) (c d : C) (ds : List C) → n < number c → n < number d → Order (number c) (number d) → IsBelowFirst number n (with_member_by number c (d ∷ ds))
below_first_at number n c d ds h b (inl e) = rw (put_there number c d ds e) b
below_first_at number n c d ds h b (inr (inl l)) = rw (put_before number c d ds l) h
below_first_at number n c d ds h b (inr (inr g)) = rw (put_behind number c d ds g) b

below_first_kept : {C : Type 0} (number : C → ℕ) (n : ℕ) (c : C) (cs : List C) → n < number c → IsBelowFirst number n cs → IsBelowFirst number n (with_member_by number c cs)
below_first_kept number n c [] h b = h
below_first_kept number n c (d ∷ ds) h b = below_first_at number n c d ds h b (cases_order (number c) (number d))

ascending_at : {C : Type 0} (number : C → ℕ) (c d : C) (ds : List C) → IsAscendingBy number (d ∷ ds) → IsAscendingBy number (with_member_by number c ds) → Order (number c) (number d)
    → IsAscendingBy number (with_member_by number c (d ∷ ds))
ascending_at number c d ds h more (inl e) = rw (put_there number c d ds e) h
ascending_at number c d ds h more (inr (inl l)) = rw (put_before number c d ds l) (l, h)
ascending_at number c d ds h more (inr (inr g)) =
    rw (put_behind number c d ds g) (ascending_from number d (with_member_by number c ds) (below_first_kept number (number d) c ds g (first_below number d ds h)) more)

put_ascending : {C : Type 0} (number : C → ℕ) (c : C) (cs : List C) → IsAscendingBy number cs → IsAscendingBy number (with_member_by number c cs)
put_ascending number c [] h = tt
put_ascending number c (d ∷ ds) h = ascending_at number c d ds h (put_ascending number c ds (ascending_behind number d ds h)) (cases_order (number c) (number d))

pub set_ascending : {C : Type 0} (number : C → ℕ) (cs : List C) → IsAscendingBy number (set_by number cs)
set_ascending number [] = tt
set_ascending number (c ∷ cs) = put_ascending number c (set_by number cs) (set_ascending number cs)

-- ---- the set has the members of the list: each test holds of one of them or of none

or_swap : (a b c : Bool) → (a || (b || c)) ≡ (b || (a || c))
or_swap true true c = refl
or_swap true false c = refl
or_swap false true c = refl
or_swap false false c = refl

or_twice : (a b : Bool) → (a || (a || b)) ≡ (a || b)
or_twice true b = refl
or_twice false b = refl

any_at : {C : Type 0} (number : C → ℕ) → Tells number → (q : C → Bool) (c d : C) (ds : List C) → list_any q (with_member_by number c ds) ≡ (q c || list_any q ds) → Order (number c) (number d)
    → list_any q (with_member_by number c (d ∷ ds)) ≡ (q c || (q d || list_any q ds))
any_at {C} number tells q c d ds more (inl e) = rw (put_there number c d ds e) (subst (λ (x : C). (q x || list_any q ds) ≡ (q c || (q x || list_any q ds))) (tells c d e) (sym (or_twice (q c) (list_any q ds))))
any_at number tells q c d ds more (inr (inl l)) = rw (put_before number c d ds l) refl
any_at number tells q c d ds more (inr (inr g)) = rw (put_behind number c d ds g) (ap (λ (b : Bool). q d || b) more ∙ or_swap (q d) (q c) (list_any q ds))

any-put : {C : Type 0} (number : C → ℕ) → Tells number → (q : C → Bool) (c : C) (cs : List C) → list_any q (with_member_by number c cs) ≡ (q c || list_any q cs)
any-put number tells q c [] = refl
any-put number tells q c (d ∷ ds) = any_at number tells q c d ds (any-put number tells q c ds) (cases_order (number c) (number d))

pub any-set : {C : Type 0} (number : C → ℕ) → Tells number → (q : C → Bool) (cs : List C) → list_any q (set_by number cs) ≡ list_any q cs
any-set number tells q [] = refl
any-set number tells q (c ∷ cs) = any-put number tells q c (set_by number cs) ∙ ap (λ (b : Bool). q c || b) (any-set number tells q cs)

-- ---- lists in rising order with the same members are the same

-- the number is that of a member
abbrev has : {C : Type 0} → (C → ℕ) → ℕ → List C → Bool
has number n cs = list_any (λ c. number c == n) cs

-- each number that is a member of the one is a member of the other, and back
abbrev Alike : {C : Type 0} → (C → ℕ) → List C → List C → Type 0
Alike number xs ys = (n : ℕ) → has number n xs ≡ has number n ys

has_none : {C : Type 0} (number : C → ℕ) (n : ℕ) (cs : List C) → IsBelowFirst number n cs → IsAscendingBy number cs → has number n cs ≡ false
has_none number n [] b h = refl
has_none number n (c ∷ cs) b h =
    or_from (number c == n) (has number n cs) (ne_eqb (number c) n (λ (e : number c ≡ n). omega (arith, b, e)))
    (has_none number n cs (lower number n c cs b (first_below number c cs h)) (ascending_behind number c cs h))

has_first : {C : Type 0} (number : C → ℕ) (c : C) (cs : List C) → has number (number c) (c ∷ cs) ≡ true
has_first number c cs = ap (λ (b : Bool). b || has number (number c) cs) (eq-eqb (number c) (number c) refl)

first_least : {C : Type 0} (number : C → ℕ) (x y : C) (xs ys : List C) → IsAscendingBy number (y ∷ ys) → has number (number x) (x ∷ xs) ≡ has number (number x) (y ∷ ys) → number x < number y → ⊥
first_least number x y xs ys h same l =
    let k : has number (number x) (y ∷ ys) ≡ false = has_none number (number x) (y ∷ ys) l h in
    let t : has number (number x) (x ∷ xs) ≡ true = has_first number x xs in
    absurd cc

apart : (a b : ℕ) → a ≡ b → (a < b) ⊎ (b < a) → ⊥
apart a b e (inl l) = omega arith
apart a b e (inr g) = omega arith

-- the members behind the first
same_behind : {C : Type 0} (number : C → ℕ) (n : ℕ) (x : C) (xs ys : List C) → IsAscendingBy number (x ∷ xs) → IsAscendingBy number (x ∷ ys) → has number n (x ∷ xs) ≡ has number n (x ∷ ys)
    → Order (number x) n → has number n xs ≡ has number n ys
same_behind {C} number n x xs ys hx hy same (inl e) =
    let none : (zs : List C) → IsAscendingBy number (x ∷ zs) → has number (number x) zs ≡ false = λ zs h. has_none number (number x) zs (first_below number x zs h) (ascending_behind number x zs h) in
    subst (λ (m : ℕ). has number m xs ≡ has number m ys) e (none xs hx ∙ sym (none ys hy))
same_behind number n x xs ys hx hy same (inr o) =
    let f : (number x == n) ≡ false = ne_eqb (number x) n (λ (e : number x ≡ n). apart (number x) n e o) in
    sym (ap (λ (b : Bool). b || has number n xs) f) ∙ same ∙ ap (λ (b : Bool). b || has number n ys) f

firsts_same : {C : Type 0} (number : C → ℕ) → Tells number → (x y : C) (xs ys : List C) → IsAscendingBy number (x ∷ xs) → IsAscendingBy number (y ∷ ys) → Alike number (x ∷ xs) (y ∷ ys)
    → (IsAscendingBy number ys → Alike number xs ys → xs ≡ ys) → Order (number x) (number y) → (x ∷ xs) ≡ (y ∷ ys)
firsts_same number tells x y xs ys hx hy same more (inr (inl l)) = absurd (first_least number x y xs ys hy (same (number x)) l)
firsts_same number tells x y xs ys hx hy same more (inr (inr g)) = absurd (first_least number y x ys xs hx (sym (same (number y))) g)
firsts_same {C} number tells x y xs ys hx hy same more (inl e) =
    let c : x ≡ y = tells x y e in
    let hy' : IsAscendingBy number (x ∷ ys) = subst (λ (z : C). IsAscendingBy number (z ∷ ys)) (sym c) hy in
    let same' : Alike number (x ∷ xs) (x ∷ ys) = subst (λ (z : C). Alike number (x ∷ xs) (z ∷ ys)) (sym c) same in
    ap (λ (zs : List C). x ∷ zs) (more (ascending_behind number y ys hy) (λ n. same_behind number n x xs ys hx hy' (same' n) (cases_order (number x) n))) ∙ ap (λ (z : C). z ∷ ys) c

alike_same : {C : Type 0} (number : C → ℕ) → Tells number → (xs ys : List C) → IsAscendingBy number xs → IsAscendingBy number ys → Alike number xs ys → xs ≡ ys
alike_same number tells [] [] hx hy same = refl
alike_same number tells [] (y ∷ ys) hx hy same = let t : has number (number y) (y ∷ ys) ≡ true = has_first number y ys in let s : false ≡ has number (number y) (y ∷ ys) = same (number y) in absurd cc
alike_same number tells (x ∷ xs) [] hx hy same = let t : has number (number x) (x ∷ xs) ≡ true = has_first number x xs in let s : has number (number x) (x ∷ xs) ≡ false = same (number x) in absurd cc
alike_same number tells (x ∷ xs) (y ∷ ys) hx hy same =
    firsts_same number tells x y xs ys hx hy same (λ h k. alike_same number tells xs ys (ascending_behind number x xs hx) h k) (cases_order (number x) (number y))

pub ascending_same : {C : Type 0} (number : C → ℕ) → Tells number → (xs ys : List C) → IsAscendingBy number xs → IsAscendingBy number ys → ((q : C → Bool) → list_any q xs ≡ list_any q ys) → xs ≡ ys
ascending_same number tells xs ys hx hy same = alike_same number tells xs ys hx hy (λ n. same (λ c. number c == n))

-- ---- sets of lists that are made of others

-- another order makes the same set
pub set_permuted : {C : Type 0} (number : C → ℕ) → Tells number → (xs ys : List C) → IsPermutation xs ys → set_by number xs ≡ set_by number ys
set_permuted number tells xs ys h =
    ascending_same number tells (set_by number xs) (set_by number ys) (set_ascending number xs) (set_ascending number ys)
    (λ q. any-set number tells q xs ∙ list_any-IsPermutation q xs ys h ∙ sym (any-set number tells q ys))

-- a list in rising order is its set
pub set_itself : {C : Type 0} (number : C → ℕ) → Tells number → (cs : List C) → IsAscendingBy number cs → set_by number cs ≡ cs
set_itself number tells cs h = ascending_same number tells (set_by number cs) cs (set_ascending number cs) h (λ q. any-set number tells q cs)

-- what is added to a list is added to its set
pub set_added : {C : Type 0} (number : C → ℕ) → Tells number → (cs more : List C) → set_by number (cs ++ more) ≡ set_by number (set_by number cs ++ more)
set_added number tells cs more =
    ascending_same number tells (set_by number (cs ++ more)) (set_by number (set_by number cs ++ more)) (set_ascending number (cs ++ more)) (set_ascending number (set_by number cs ++ more))
    (λ q. any-set number tells q (cs ++ more) ∙ list_any-append q cs more ∙ ap (λ (b : Bool). b || list_any q more) (sym (any-set number tells q cs)) ∙ sym (list_any-append q (set_by number cs) more)
    ∙ sym (any-set number tells q (set_by number cs ++ more)))

below_by : {C : Type 0} (number : C → ℕ) (n : ℕ) (c : C) (cs : List C) (b : Bool) → n < number c → IsBelowFirst number n cs → IsBelowFirst number n (cond b (c ∷ cs) cs)
below_by number n c cs true l h = l
below_by number n c cs false l h = h

below_kept : {C : Type 0} (number : C → ℕ) (p : C → Bool) (n : ℕ) (cs : List C) → IsBelowFirst number n cs → IsAscendingBy number cs → IsBelowFirst number n (filter p cs)
below_kept number p n [] b h = tt
below_kept number p n (c ∷ cs) b h =
    below_by number n c (filter p cs) (p c) b (below_kept number p n cs (lower number n c cs b (first_below number c cs h)) (ascending_behind number c cs h))

ascending_by : {C : Type 0} (number : C → ℕ) (c : C) (cs : List C) (b : Bool) → IsBelowFirst number (number c) cs → IsAscendingBy number cs → IsAscendingBy number (cond b (c ∷ cs) cs)
ascending_by number c cs true b h = ascending_from number c cs b h
ascending_by number c cs false b h = h

ascending_kept : {C : Type 0} (number : C → ℕ) (p : C → Bool) (cs : List C) → IsAscendingBy number cs → IsAscendingBy number (filter p cs)
ascending_kept number p [] h = tt
ascending_kept number p (c ∷ cs) h =
    let behind = ascending_behind number c cs h in
    ascending_by number c (filter p cs) (p c) (below_kept number p (number c) cs (first_below number c cs h) behind) (ascending_kept number p cs behind)

any_by : {C : Type 0} (q : C → Bool) (c : C) (cs : List C) (b rest : Bool) → list_any q cs ≡ rest → list_any q (cond b (c ∷ cs) cs) ≡ ((b && q c) || rest)
any_by q c cs true rest e = ap (λ (r : Bool). q c || r) e
any_by q c cs false rest e = e

any-kept : {C : Type 0} (p q : C → Bool) (cs : List C) → list_any q (filter p cs) ≡ list_any (λ c. p c && q c) cs
any-kept p q [] = refl
any-kept p q (c ∷ cs) = any_by q c (filter p cs) (p c) (list_any (λ x. p x && q x) cs) (any-kept p q cs)

-- what passes a test of a list's members is the same before and after
pub set_kept : {C : Type 0} (number : C → ℕ) → Tells number → (p : C → Bool) (cs : List C) → set_by number (filter p cs) ≡ filter p (set_by number cs)
set_kept number tells p cs =
    ascending_same number tells (set_by number (filter p cs)) (filter p (set_by number cs)) (set_ascending number (filter p cs)) (ascending_kept number p (set_by number cs) (set_ascending number cs))
    (λ q. any-set number tells q (filter p cs) ∙ any-kept p q cs ∙ sym (any-set number tells (λ c. p c && q c) cs) ∙ sym (any-kept p q (set_by number cs)))

-- ---- two changes one after the other

both_by : {C : Type 0} (q : C → Bool) (c : C) (both first : List C) (a b d : Bool) → d ≡ (a || b) → q c ≡ not b → both ≡ filter q first
    → cond (not d) (c ∷ both) both ≡ filter q (cond (not a) (c ∷ first) first)
both_by {C} q c both first true b d e f more = ap (λ (x : Bool). cond (not x) (c ∷ both) both) e ∙ more
both_by {C} q c both first false b d e f more =
    ap (λ (x : Bool). cond (not x) (c ∷ both) both) e ∙ ap (λ (xs : List C). cond (not b) (c ∷ xs) xs) more ∙ ap (λ (x : Bool). cond x (c ∷ filter q first) (filter q first)) (sym f)

-- what fits neither of two lists of rectangles
fits_neither : {R C : Type 0} (fits : R → C → Bool) (rs qs : List R) (cs : List C)
    → filter (λ c. not (fits_some fits (rs ++ qs) c)) cs ≡ filter (λ c. not (fits_some fits qs c)) (filter (λ c. not (fits_some fits rs c)) cs)
fits_neither fits rs qs [] = refl
fits_neither fits rs qs (c ∷ cs) =
    both_by (λ x. not (fits_some fits qs x)) c (filter (λ x. not (fits_some fits (rs ++ qs) x)) cs) (filter (λ x. not (fits_some fits rs x)) cs) (fits_some fits rs c) (fits_some fits qs c) (fits_some fits (rs ++ qs) c)
    (list_any-append (λ r. fits r c) rs qs) refl (fits_neither fits rs qs cs)

-- the change that acts as the first and then the second: the second also removes what the first adds
pub changes_joined : {R C : Type 0} (number : C → ℕ) → Tells number → (fits : R → C → Bool) (rs qs : List R) (added more old : List C)
    → set_after_by number fits (rs ++ qs) (filter (λ c. not (fits_some fits qs c)) added ++ more) old ≡ set_after_by number fits qs more (set_after_by number fits rs added old)
changes_joined {R} {C} number tells fits rs qs added more old =
    let q : C → Bool = λ c. not (fits_some fits qs c) in
    let first : List C = filter (λ c. not (fits_some fits rs c)) old in
    ap (λ (xs : List C). set_by number (xs ++ (filter q added ++ more))) (fits_neither fits rs qs old)
    ∙ ap (λ (xs : List C). set_by number xs) (sym (append_assoc (filter q first) (filter q added) more) ∙ ap (λ (xs : List C). xs ++ more) (sym (filter-append q first added)))
    ∙ set_added number tells (filter q (first ++ added)) more
    ∙ ap (λ (xs : List C). set_by number (xs ++ more)) (set_kept number tells q (first ++ added))

-- ---- communities of RFC 1997

pub same_community : (c d : Community) → number c ≡ number d → c ≡ d
same_community c d e = ap (λ (n : ℕ). record { 0 = n }) e

pub member_before : (c d : Community) (ds : List Community) → c.0 < d.0 → with_member c (d ∷ ds) ≡ c ∷ d ∷ ds
member_before c d ds h = put_before number c d ds h

pub member_behind : (c d : Community) (ds : List Community) → d.0 < c.0 → with_member c (d ∷ ds) ≡ d ∷ with_member c ds
member_behind c d ds h = put_behind number c d ds h

pub member_there : (c d : Community) (ds : List Community) → c.0 ≡ d.0 → with_member c (d ∷ ds) ≡ d ∷ ds
member_there c d ds h = put_there number c d ds h

-- the set of a list is in rising order and without repeats
pub set_of_ascending : (cs : List Community) → IsAscending (set_of cs)
set_of_ascending cs = set_ascending number cs

-- what a change leaves is in rising order and without repeats
pub set_after_ascending : (removed : List RectParts) (added old set : List Community) → set ≡ set_after removed added old → IsAscending set
set_after_ascending removed added old set e =
    subst IsAscending (sym e) (set_ascending number (filter (λ c. not (fits_some fits removed c)) old ++ added))

-- what is the set of a list is in rising order and without repeats
pub is_ascending_set : (list set : List Community) → set ≡ set_of list → IsAscending set
is_ascending_set list set e = subst IsAscending (sym e) (set_of_ascending list)
