-- What holds for each item of lists.
use Rattle.std.proofs.Common.{List, [], ◌∷◌, ◌++◌, map}
use Rattle.std.specs.List.{flat_map, AllByRecursion}

module _ {A : Type 0} (P : A → Type 0) where
  -- of two lists, one behind the other
  pub front : (xs ys : List A) → AllByRecursion P (xs ++ ys) → AllByRecursion P xs × AllByRecursion P ys
  front [] ys h = (tt, h)
  front (x ∷ xs) ys h = let more = front xs ys h.1 in ((h.0, more.0), more.1)

  pub both : (xs ys : List A) → AllByRecursion P xs → AllByRecursion P ys → AllByRecursion P (xs ++ ys)
  both [] ys h k = k
  both (x ∷ xs) ys h k = (h.0, both xs ys h.1 k)

  -- what follows for each
  pub each : (Q : A → Type 0) → ((x : A) → P x → Q x) → (xs : List A) → AllByRecursion P xs → AllByRecursion Q xs
  each Q follows [] h = tt
  each Q follows (x ∷ xs) h = (follows x h.0, each Q follows xs h.1)

-- of the lists that items give
pub gathered : {A B : Type 0} (P : A → Type 0) (Q : B → Type 0) (f : A → List B) → ((x : A) → P x → AllByRecursion Q (f x)) → (xs : List A) → AllByRecursion P xs → AllByRecursion Q (flat_map f xs)
gathered P Q f follows [] h = tt
gathered P Q f follows (x ∷ xs) h = both Q (f x) (flat_map f xs) (follows x h.0) (gathered P Q f follows xs h.1)

-- each item gives a list of which it holds
pub apart : {A B : Type 0} (Q : B → Type 0) (f : A → List B) (xs : List A) → AllByRecursion Q (flat_map f xs) → AllByRecursion (λ x. AllByRecursion Q (f x)) xs
apart Q f [] h = tt
apart Q f (x ∷ xs) h = let parts = front Q (f x) (flat_map f xs) h in (parts.0, apart Q f xs parts.1)

-- of values that items are made into
pub made_of : {A B : Type 0} (Q : B → Type 0) (f : A → B) (xs : List A) → AllByRecursion (λ x. Q (f x)) xs → AllByRecursion Q (map f xs)
made_of Q f [] h = tt
made_of Q f (x ∷ xs) h = (h.0, made_of Q f xs h.1)
