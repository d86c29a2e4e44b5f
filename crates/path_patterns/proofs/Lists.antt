-- What holds of each element of a list, the first element of a list that has one, and equal bytes.
use Rattle.std.proofs.Common.{◌≡◌, Bool, true, sym, ap, ◌∙◌, ℕ, zero, suc, ◌-◌, ◌≤◌, List, [], ◌∷◌, ◌++◌, length, get_or, take, drop, map, replicate, append_assoc, arith}
use Rattle.std.specs.Prelude.{bytes_eq}
use Rattle.std.specs.Bool.{Decides}
use Rattle.std.specs.List.{list_any, AllByRecursion}
use Rattle.std.proofs.lemmas.Bool.Decides.{Decides-or}
use Rattle.std.proofs.lemmas.Slice.Eq.{bytes_eq-Decides}
use Rattle.std.proofs.lemmas.List.{take_all, length-drop, map-append}
use Rattle.route_types.specs.RouteText.{Each}
use Rattle.path_patterns.specs.Items.{SomeOf}

-- what holds of all of two lists holds of all of both
pub all_append : {A : Type 0} (P : A → Type 0) (xs ys : List A) → AllByRecursion P xs → AllByRecursion P ys → AllByRecursion P (xs ++ ys)
all_append P [] ys h k = k
all_append P (x ∷ xs) ys h k = (h.0, all_append P xs ys h.1 k)

-- two things that hold of each element
pub all_both : {A : Type 0} (P Q : A → Type 0) (xs : List A) → AllByRecursion (λ x. P x × Q x) xs → AllByRecursion P xs × AllByRecursion Q xs
all_both P Q [] h = (tt, tt)
all_both P Q (x ∷ xs) h = let k = all_both P Q xs h.1 in ((h.0.0, k.0), (h.0.1, k.1))

pub all_pairs : {A : Type 0} (P Q : A → Type 0) (xs : List A) → AllByRecursion P xs → AllByRecursion Q xs → AllByRecursion (λ x. P x × Q x) xs
all_pairs P Q [] h k = tt
all_pairs P Q (x ∷ xs) h k = ((h.0, k.0), all_pairs P Q xs h.1 k.1)

-- what holds of all of a list holds behind its front
pub all_behind : {A : Type 0} (P : A → Type 0) (xs ys : List A) → AllByRecursion P (xs ++ ys) → AllByRecursion P ys
all_behind P [] ys h = h
all_behind P (x ∷ xs) ys h = all_behind P xs ys h.1

-- what holds of an element holds of copies of it
pub all_copies : {A : Type 0} (P : A → Type 0) (x : A) (n : ℕ) → P x → AllByRecursion P (replicate n x)
all_copies P x zero h = tt
all_copies P x (suc n) h = (h, all_copies P x n h)

-- the first element and the others
pub first_rest : {A : Type 0} (xs : List A) (x : A) → 1 ≤ length xs → x ≡ get_or xs 0 x → xs ≡ x ∷ drop 1 xs
first_rest {A} [] x h e = absurd (omega (arith, h))
first_rest {A} (y ∷ ys) x h e = ap (λ (z : A). z ∷ ys) (sym e)

-- the first element and the others, as a loop goes on with them
pub first_tail : {A : Type 0} (xs : List A) (x : A) → 1 ≤ length xs → x ≡ get_or xs 0 x → xs ≡ x ∷ take (length xs - 1) (drop 1 xs)
first_tail {A} xs x h e =
    first_rest xs x h e ∙ ap (λ (z : List A). x ∷ z) (sym (take_all (length xs - 1) (drop 1 xs) (omega (arith, length-drop 1 xs))))

-- what is made of two lists stands before what stands behind
pub map_before : {A B : Type 0} (f : A → B) (xs ys : List A) (bs : List B) → map f (xs ++ ys) ++ bs ≡ map f xs ++ (map f ys ++ bs)
map_before {A} {B} f xs ys bs = ap (λ (x : List B). x ++ bs) (map-append f xs ys) ∙ append_assoc (map f xs) (map f ys) bs

-- a test that decides of each element decides whether some element is so
pub any_decides : {A : Type 0} (t : A → Bool) (P : A → Type 0) → ((x : A) → Decides (t x) (P x)) → (xs : List A) → Decides (list_any t xs) (SomeOf P xs)
any_decides t P d [] = (λ e. absurd cc, λ h. absurd h)
any_decides t P d (x ∷ xs) = Decides-or (t x) (list_any t xs) (d x) (any_decides t P d xs)

-- ---- texts of each element

-- the text of each element spells it
pub each_spelled : {A : Type 0} (P : A → Type 0) (Spells : List ℕ → A → Type 0) (f : A → List ℕ) → ((x : A) → P x → Spells (f x) x) → (xs : List A) → AllByRecursion P xs → Each Spells (map f xs) xs
each_spelled P Spells f law [] h = tt
each_spelled P Spells f law (x ∷ xs) h = (law x h.0, each_spelled P Spells f law xs h.1)

-- the same by two things that hold of each element
pub each_of_both : {A : Type 0} (P Q : A → Type 0) (Spells : List ℕ → A → Type 0) (f : A → List ℕ) → ((x : A) → P x → Q x → Spells (f x) x) → (xs : List A) → AllByRecursion P xs → AllByRecursion Q xs → Each Spells (map f xs) xs
each_of_both P Q Spells f law xs p q = each_spelled (λ x. P x × Q x) Spells f (λ x h. law x h.0 h.1) xs (all_pairs P Q xs p q)

-- bytes that compare equal are equal
pub same_bytes : (a b : List ℕ) → bytes_eq a b ≡ true → a ≡ b
same_bytes a b e = (bytes_eq-Decides a b).0 e
