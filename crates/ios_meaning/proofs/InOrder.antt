-- Lists in order of a key: one in order, in which equal keys stand as before, is the list put in order.
use Rattle.std.proofs.Common.{◌≡◌, refl, sym, ap, subst, ◌∙◌, ℕ, suc, ◌<◌, ◌≤◌, Bool, true, false, cond, ◌&&◌, not, List, [], ◌∷◌, inl, inr, ◌⊎◌, arith}
use Rattle.std.specs.Prelude.{◌==◌, nat_le, map, filter}
use denote.Param.Members.{Mut}
use Rattle.std.specs.Borrow.{Bor}
use Rattle.std.specs.Fn.{Called, ComputesKey}
use Rattle.std.specs.Ordering.{nat_cmp, is_lt}
use Rattle.std.specs.List.Sorted.{IsNonDecreasingBy, IsSortedByKey, IsStableByKey}
use Rattle.std.proofs.lemmas.Bool.{cases_order, eq-eqb, ne_eqb, leb-true, leb-false}
use Rattle.std.proofs.lemmas.List.Sorted.{IsNonDecreasingBy-from_sort, answers_always}
use Rattle.route_types.proofs.Sets.{Order}
use Rattle.ios_meaning.specs.Order.{put_in_order, in_order}
use Rattle.ios_meaning.proofs.Alike.{filter_alike}

-- no key is below the one before it
abbrev pub Rises : {A : Type 0} → (A → ℕ) → List A → Type 0
Rises key [] = Unit {0}
Rises key (x ∷ []) = Unit {0}
Rises key (x ∷ y ∷ ys) = (key x ≤ key y) × Rises key (y ∷ ys)

-- the items of one key
abbrev pub with_key : {A : Type 0} → (A → ℕ) → ℕ → List A → List A
with_key key n xs = filter (λ e. key e == n) xs

rises : {A : Type 0} (key : A → ℕ) (xs : List A) → IsNonDecreasingBy key xs → Rises key xs
rises key [] h = tt
rises key (x ∷ []) h = tt
rises key (x ∷ y ∷ ys) h = (h 0 1 x (omega arith) (omega arith), rises key (y ∷ ys) (λ i j e a b. h (suc i) (suc j) e (omega arith) (omega arith)))

pub rises_behind : {A : Type 0} (key : A → ℕ) (x : A) (xs : List A) → Rises key (x ∷ xs) → Rises key xs
rises_behind key x [] h = tt
rises_behind key x (y ∷ ys) h = h.1

-- ---- two lists in order with the same items of each key are the same

none_below : {A : Type 0} (key : A → ℕ) (n : ℕ) (x : A) (xs : List A) → n < key x → Rises key (x ∷ xs) → with_key key n (x ∷ xs) ≡ []
none_below {A} key n x [] l h = ap (λ (b : Bool). cond b (x ∷ []) []) (ne_eqb (key x) n (λ (e : key x ≡ n). omega arith))
none_below {A} key n x (y ∷ ys) l h =
    let more : List A = with_key key n (y ∷ ys) in
    ap (λ (b : Bool). cond b (x ∷ more) more) (ne_eqb (key x) n (λ (e : key x ≡ n). omega arith)) ∙ none_below key n y ys (omega arith) h.1

with_first : {A : Type 0} (key : A → ℕ) (n : ℕ) (x : A) (xs : List A) → key x ≡ n → with_key key n (x ∷ xs) ≡ x ∷ with_key key n xs
with_first key n x xs e = ap (λ (b : Bool). cond b (x ∷ with_key key n xs) (with_key key n xs)) (eq-eqb (key x) n e)

without_first : {A : Type 0} (key : A → ℕ) (n : ℕ) (x : A) (xs : List A) → ((key x < n) ⊎ (n < key x)) → with_key key n (x ∷ xs) ≡ with_key key n xs
without_first key n x xs o = ap (λ (b : Bool). cond b (x ∷ with_key key n xs) (with_key key n xs)) (ne_eqb (key x) n (apart (key x) n o))
  where
    apart : (a b : ℕ) → ((a < b) ⊎ (b < a)) → a ≡ b → ⊥
    apart a b (inl l) e = omega arith
    apart a b (inr g) e = omega arith

same_behind : {A : Type 0} (key : A → ℕ) (n : ℕ) (x y : A) (xs ys : List A) → key x ≡ key y → with_key key n (x ∷ xs) ≡ with_key key n (y ∷ ys) → Order (key x) n → with_key key n xs ≡ with_key key n ys
same_behind key n x y xs ys same h (inl e) =
    let f = with_first key n x xs e in
    let g = with_first key n y ys (sym same ∙ e) in
    cc
same_behind key n x y xs ys same h (inr o) =
    sym (without_first key n x xs o) ∙ h ∙ without_first key n y ys (subst (λ (k : ℕ). (k < n) ⊎ (n < k)) same o)

same_first : {A : Type 0} (key : A → ℕ) (x y : A) (xs ys : List A) → key x ≡ key y → with_key key (key x) (x ∷ xs) ≡ with_key key (key x) (y ∷ ys) → x ≡ y
same_first key x y xs ys same h =
    let f = with_first key (key x) x xs refl in
    let g = with_first key (key x) y ys (sym same) in
    cc

none_there : {A : Type 0} (key : A → ℕ) (x y : A) (xs ys : List A) → key x < key y → Rises key (y ∷ ys) → with_key key (key x) (x ∷ xs) ≡ with_key key (key x) (y ∷ ys) → ⊥
none_there key x y xs ys l h same =
    let f = with_first key (key x) x xs refl in
    let g = none_below key (key x) y ys l h in
    cc

same_from : {A : Type 0} (key : A → ℕ) (x y : A) (xs ys : List A) → Rises key (x ∷ xs) → Rises key (y ∷ ys) → ((e : A) → with_key key (key e) (x ∷ xs) ≡ with_key key (key e) (y ∷ ys)) → (((e : A) → with_key key (key e) xs ≡ with_key key (key e) ys) → xs ≡ ys) → Order (key x) (key y) → (x ∷ xs) ≡ (y ∷ ys)
same_from key x y xs ys hx hy same more (inr (inl l)) = absurd (none_there key x y xs ys l hy (same x))
same_from key x y xs ys hx hy same more (inr (inr g)) = absurd (none_there key y x ys xs g hx (sym (same y)))
same_from key x y xs ys hx hy same more (inl e) =
    let first = same_first key x y xs ys e (same x) in
    let behind = more (λ a. same_behind key (key a) x y xs ys e (same a) (cases_order (key x) (key a))) in
    cc

same_rising : {A : Type 0} (key : A → ℕ) (xs ys : List A) → Rises key xs → Rises key ys → ((e : A) → with_key key (key e) xs ≡ with_key key (key e) ys) → xs ≡ ys
same_rising key [] [] hx hy same = refl
same_rising key [] (y ∷ ys) hx hy same = let f = with_first key (key y) y ys refl in let s = same y in absurd cc
same_rising key (x ∷ xs) [] hx hy same = let f = with_first key (key x) x xs refl in let s = same x in absurd cc
same_rising key (x ∷ xs) (y ∷ ys) hx hy same =
    same_from key x y xs ys hx hy same (same_rising key xs ys (rises_behind key x xs hx) (rises_behind key y ys hy)) (cases_order (key x) (key y))

-- ---- the list put in order

-- the first key, if there is one, is no lower than the number
abbrev IsLeast : {A : Type 0} → (A → ℕ) → ℕ → List A → Type 0
IsLeast key n [] = Unit {0}
IsLeast key n (x ∷ xs) = n ≤ key x

rises_from : {A : Type 0} (key : A → ℕ) (x : A) (xs : List A) → IsLeast key (key x) xs → Rises key xs → Rises key (x ∷ xs)
rises_from key x [] l h = tt
rises_from key x (y ∷ ys) l h = (l, h)

least_behind : {A : Type 0} (key : A → ℕ) (x : A) (xs : List A) → Rises key (x ∷ xs) → IsLeast key (key x) xs
least_behind key x [] h = tt
least_behind key x (y ∷ ys) h = h.0

least_by : {A : Type 0} (key : A → ℕ) (n : ℕ) (x y : A) (ys : List A) (b : Bool) → n ≤ key x → n ≤ key y → IsLeast key n (elim b [ true ↦ x ∷ y ∷ ys | false ↦ y ∷ put_in_order key x ys ])
least_by key n x y ys true l h = l
least_by key n x y ys false l h = h

least_put : {A : Type 0} (key : A → ℕ) (n : ℕ) (x : A) (xs : List A) → n ≤ key x → IsLeast key n xs → IsLeast key n (put_in_order key x xs)
least_put key n x [] l h = l
least_put key n x (y ∷ ys) l h = least_by key n x y ys (nat_le (key x) (key y)) l h

rises_by : {A : Type 0} (key : A → ℕ) (x y : A) (ys : List A) (b : Bool) → nat_le (key x) (key y) ≡ b → Rises key (y ∷ ys) → Rises key (put_in_order key x ys) → Rises key (elim b [ true ↦ x ∷ y ∷ ys | false ↦ y ∷ put_in_order key x ys ])
rises_by key x y ys true e h more = (leb-true (key x) (key y) e, h)
rises_by key x y ys false e h more =
    rises_from key y (put_in_order key x ys) (least_put key (key y) x ys (omega (arith, leb-false (key x) (key y) e)) (least_behind key y ys h)) more

rises_put : {A : Type 0} (key : A → ℕ) (x : A) (xs : List A) → Rises key xs → Rises key (put_in_order key x xs)
rises_put key x [] h = tt
rises_put key x (y ∷ ys) h = rises_by key x y ys (nat_le (key x) (key y)) refl h (rises_put key x ys (rises_behind key y ys h))

pub rises_in_order : {A : Type 0} (key : A → ℕ) (xs : List A) → Rises key (in_order key xs)
rises_in_order key [] = tt
rises_in_order key (x ∷ xs) = rises_put key x (in_order key xs) (rises_in_order key xs)

swapped : {A : Type 0} (x y : A) (w : List A) (p q : Bool) → (p ≡ true → q ≡ true → ⊥) → cond q (y ∷ cond p (x ∷ w) w) (cond p (x ∷ w) w) ≡ cond p (x ∷ cond q (y ∷ w) w) (cond q (y ∷ w) w)
swapped x y w true true h = absurd (h refl refl)
swapped x y w true false h = refl
swapped x y w false true h = refl
swapped x y w false false h = refl

not_both : (a b n : ℕ) → b < a → (a == n) ≡ true → (b == n) ≡ true → ⊥
not_both a b n l e f = grind arith

put_by : {A : Type 0} (key : A → ℕ) (n : ℕ) (x y : A) (ys : List A) (b : Bool) → nat_le (key x) (key y) ≡ b → with_key key n (put_in_order key x ys) ≡ with_key key n (x ∷ ys) → with_key key n (elim b [ true ↦ x ∷ y ∷ ys | false ↦ y ∷ put_in_order key x ys ]) ≡ with_key key n (x ∷ y ∷ ys)
put_by key n x y ys true e more = refl
put_by {A} key n x y ys false e more =
    ap (λ (w : List A). cond (key y == n) (y ∷ w) w) more
    ∙ swapped x y (with_key key n ys) (key x == n) (key y == n) (not_both (key x) (key y) n (leb-false (key x) (key y) e))

put_with_key : {A : Type 0} (key : A → ℕ) (n : ℕ) (x : A) (xs : List A) → with_key key n (put_in_order key x xs) ≡ with_key key n (x ∷ xs)
put_with_key key n x [] = refl
put_with_key key n x (y ∷ ys) = put_by key n x y ys (nat_le (key x) (key y)) refl (put_with_key key n x ys)

in_order_with_key : {A : Type 0} (key : A → ℕ) (n : ℕ) (xs : List A) → with_key key n (in_order key xs) ≡ with_key key n xs
in_order_with_key key n [] = refl
in_order_with_key {A} key n (x ∷ xs) = put_with_key key n x (in_order key xs) ∙ ap (λ (w : List A). cond (key x == n) (x ∷ w) w) (in_order_with_key key n xs)

-- ---- what a stable sort gives

ties_at : (a b : ℕ) → Order a b → (not (is_lt (nat_cmp a b)) && not (is_lt (nat_cmp b a))) ≡ (b == a)
ties_at a b (inl e) = grind arith
ties_at a b (inr (inl l)) = grind arith
ties_at a b (inr (inr g)) = grind arith

tied : {A : Type 0} (key : A → ℕ) (e : A) (xs : List A) → filter (λ y. not (is_lt (nat_cmp (key e) (key y))) && not (is_lt (nat_cmp (key y) (key e)))) xs ≡ with_key key (key e) xs
tied key e xs = filter_alike (λ y. not (is_lt (nat_cmp (key e) (key y))) && not (is_lt (nat_cmp (key y) (key e)))) (λ y. key y == key e) (λ y. ties_at (key e) (key y) (cases_order (key e) (key y))) xs

-- a list sorted by the key, in which equal keys stand as before, is the list put in order
pub sorted_in_order : {A : Type 0} (key : A → ℕ) (xs ys : List A) → IsSortedByKey key nat_cmp ys → IsStableByKey key nat_cmp xs ys → ys ≡ in_order key xs
sorted_in_order key xs ys sorted stable =
    same_rising key ys (in_order key xs) (rises key ys (IsNonDecreasingBy-from_sort key ys sorted)) (rises_in_order key xs)
    (λ e. sym (tied key e ys) ∙ stable e ∙ tied key e xs ∙ sym (in_order_with_key key (key e) xs))

-- the same from what `sort_by_key` ensures, where each call gives the key
pub in_order_from_sort : {A : Type 0} (key : A → ℕ) {F : Type 0} {g : Mut F (Bor A × Unit {0}) ℕ} {f : F} (xs ys : List A) → ((k : A → ℕ) → ComputesKey g k f → IsSortedByKey k nat_cmp ys) → ((k : A → ℕ) → ComputesKey g k f → IsStableByKey k nat_cmp xs ys)
    → ((e : F) (a : Bor A × Unit {0}) (r : ℕ) (h : F) → Called g e a r h → r ≡ key a.0.now) → ys ≡ in_order key xs
in_order_from_sort key {g = g} {f = f} xs ys sorted stable answers =
    let computes = answers_always g (λ a r. r ≡ key a.0.now) f answers in
    sorted_in_order key xs ys (sorted key computes) (stable key computes)

map_by : {A B : Type 0} (f : A → B) (key : B → ℕ) (x y : A) (ys : List A) (b : Bool) → map f (put_in_order (λ a. key (f a)) x ys) ≡ put_in_order key (f x) (map f ys) → map f (elim b [ true ↦ x ∷ y ∷ ys | false ↦ y ∷ put_in_order (λ a. key (f a)) x ys ]) ≡ elim b [ true ↦ f x ∷ f y ∷ map f ys | false ↦ f y ∷ put_in_order key (f x) (map f ys) ]
map_by f key x y ys true more = refl
map_by {A} {B} f key x y ys false more = ap (λ (w : List B). f y ∷ w) more

map_put : {A B : Type 0} (f : A → B) (key : B → ℕ) (x : A) (xs : List A) → map f (put_in_order (λ a. key (f a)) x xs) ≡ put_in_order key (f x) (map f xs)
map_put f key x [] = refl
map_put f key x (y ∷ ys) = map_by f key x y ys (nat_le (key (f x)) (key (f y))) (map_put f key x ys)

-- the views of items in order are the views in order
pub map_in_order : {A B : Type 0} (f : A → B) (key : B → ℕ) (xs : List A) → map f (in_order (λ a. key (f a)) xs) ≡ in_order key (map f xs)
map_in_order f key [] = refl
map_in_order {A} {B} f key (x ∷ xs) = map_put f key x (in_order (λ a. key (f a)) xs) ∙ ap (λ (w : List B). put_in_order key (f x) w) (map_in_order f key xs)
