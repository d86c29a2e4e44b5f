-- Laws of lists: what all elements pass, and what none does.
use Rattle.std.proofs.Common.{◌≡◌, refl, sym, subst, ℕ, Bool, true, false, ◌&&◌, ◌||◌, List, [], ◌∷◌, inl, inr}
use Rattle.std.specs.Prelude.{nat_le, map, reverse}
use Rattle.std.specs.List.{list_all, list_any, AllByRecursion}
use Rattle.std.proofs.lemmas.Grind.{reverse_onto}
use Rattle.path_patterns.specs.Items.{SomeOf}
use Rattle.path_patterns.proofs.Lists.{all_append}
use Rattle.ios_meaning.specs.Order.{put_in_order, in_order}

pub both_true : (a b : Bool) → a ≡ true → b ≡ true → (a && b) ≡ true
both_true a b h k = rw (h, k) refl

pub neither : (a b : Bool) → (a || b) ≡ false → (a ≡ false) × (b ≡ false)
neither true b h = absurd cc
neither false b h = (refl, h)

pub not_false : (a b : Bool) → a ≡ true → (a && b) ≡ false → b ≡ false
not_false true b h k = k
not_false false b h k = absurd cc

-- what each element passes, all do
pub all_pass : {A : Type 0} (p : A → Bool) (xs : List A) → AllByRecursion (λ x. p x ≡ true) xs → list_all p xs ≡ true
all_pass p [] h = refl
all_pass p (x ∷ xs) h = both_true (p x) (list_all p xs) h.0 (all_pass p xs h.1)

-- the same of what is made of each
pub made_pass : {A B : Type 0} (f : A → B) (p : B → Bool) (xs : List A) → AllByRecursion (λ x. p (f x) ≡ true) xs → list_all p (map f xs) ≡ true
made_pass f p [] h = refl
made_pass f p (x ∷ xs) h = both_true (p (f x)) (list_all p (map f xs)) h.0 (made_pass f p xs h.1)

pub each_is : {A : Type 0} (P : A → Type 0) → ((x : A) → P x) → (xs : List A) → AllByRecursion P xs
each_is P h [] = tt
each_is P h (x ∷ xs) = (h x, each_is P h xs)

pub all_wider : {A : Type 0} (P Q : A → Type 0) → ((x : A) → P x → Q x) → (xs : List A) → AllByRecursion P xs → AllByRecursion Q xs
all_wider P Q f [] h = tt
all_wider P Q f (x ∷ xs) h = (f x h.0, all_wider P Q f xs h.1)

-- where none passes, no one does
pub none_passes : {A : Type 0} (p : A → Bool) (xs : List A) → list_any p xs ≡ false → AllByRecursion (λ x. p x ≡ false) xs
none_passes p [] h = tt
none_passes p (x ∷ xs) h = let k = neither (p x) (list_any p xs) h in (k.0, none_passes p xs k.1)

-- of some element that is such, what all are holds too
pub some_such : {A R : Type 0} (P Q : A → Type 0) → ((x : A) → P x → Q x → R) → (xs : List A) → AllByRecursion P xs → SomeOf Q xs → R
some_such P Q f [] h k = absurd k
some_such P Q f (x ∷ xs) h (inl k) = f x h.0 k
some_such P Q f (x ∷ xs) h (inr k) = some_such P Q f xs h.1 k

-- what all are, they are backwards
pub all_backwards : {A : Type 0} (P : A → Type 0) (xs : List A) → AllByRecursion P xs → AllByRecursion P (reverse xs)
all_backwards P [] h = tt
all_backwards P (x ∷ xs) h = subst (AllByRecursion P) (sym (reverse_onto xs x [])) (all_append P (reverse xs) (x ∷ []) (all_backwards P xs h.1) (h.0, tt))

all_put : {A : Type 0} (P : A → Type 0) (key : A → ℕ) (x : A) (ys : List A) → P x → AllByRecursion P ys → AllByRecursion P (put_in_order key x ys)
all_put P key x [] here rest = (here, tt)
all_put P key x (y ∷ ys) here rest = by (nat_le (key x) (key y)) (all_put P key x ys here rest.1)
  where
    by : (b : Bool) → AllByRecursion P (put_in_order key x ys) → AllByRecursion P (elim b [ true ↦ x ∷ y ∷ ys | false ↦ y ∷ put_in_order key x ys ])
    by true more = (here, rest)
    by false more = (rest.0, more)

-- what all are, they are in whatever order
pub all_in_order : {A : Type 0} (P : A → Type 0) (key : A → ℕ) (xs : List A) → AllByRecursion P xs → AllByRecursion P (in_order key xs)
all_in_order P key [] h = tt
all_in_order P key (x ∷ xs) h = all_put P key x (in_order key xs) h.0 (all_in_order P key xs h.1)
