-- The ends of lists: the last element that is taken, and nothing left.
use Rattle.std.proofs.Common.{◌≡◌, refl, ap, ◌∙◌, ◌<◌, List, [], ◌∷◌, ◌++◌, length, Option, Some, arith}
use Rattle.std.specs.Prelude.{map, option_to_list}
use Rattle.std.proofs.lemmas.List.{map-append}

-- what a list was before its last element was taken
pub popped : {A : Type 0} (old new : List A) (o : Option A) (x : A) → old ≡ new ++ option_to_list o → o ≡ Some x → old ≡ new ++ x ∷ []
popped {A} old new o x e s = e ∙ ap (λ (p : Option A). new ++ option_to_list p) s

-- the same of what is made of the elements
pub popped_map : {A B : Type 0} (f : A → B) (old new : List A) (o : Option A) (x : A) → old ≡ new ++ option_to_list o → o ≡ Some x → map f old ≡ map f new ++ f x ∷ []
popped_map {A} f old new o x e s = ap (λ (xs : List A). map f xs) (popped old new o x e s) ∙ map-append f new (x ∷ [])

-- a list of no element is empty
pub none_left : {A : Type 0} (xs : List A) → length xs < 1 → xs ≡ []
none_left [] h = refl
none_left (x ∷ xs) h = absurd (omega (arith, h))
