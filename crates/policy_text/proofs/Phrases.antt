-- The laws of first words and of walks over words, both ways: what is found is spelled by the words, and
-- what is spelled is found.
use Rattle.std.proofs.Common.{◌≡◌, refl, sym, ap, ◌∙◌, subst, ℕ, ◌<◌, ◌^◌, Bool, true, false, List, [], ◌∷◌, ◌++◌, append_assoc, Option, Some, None}
use Rattle.std.specs.Prelude.{bytes_eq, decimal, option_map, ◌==◌}
use Rattle.std.specs.Cmp.{nat_eq_equiv}
use Rattle.std.proofs.lemmas.Bool.{ne_eqb}
use Rattle.std.proofs.lemmas.List.{append-nil}
use Rattle.std.proofs.lemmas.Slice.Eq.{bytes_eq-Decides}
use Rattle.route_types.specs.Words.{◌>>=◌, when, is_digit}
use Rattle.route_types.proofs.Numbers.{some_is, bind_found, decimal_starts}
use Rattle.policy_text.specs.Names.{first_some}
use Rattle.policy_text.specs.Phrases.{after, each, each_onto, Each}

-- ---- the words behind the first ones

-- a value that is given only by a test: the test holds, and it is this value
pub when_found : {A : Type 0} (b : Bool) (x y : A) → when b x ≡ Some y → (b ≡ true) × (x ≡ y)
when_found true x y e = (refl, some_is x y e)
when_found false x y e = absurd cc

-- texts that compare as the same are the same
pub same_bytes : (a b : List ℕ) → bytes_eq a b ≡ true → a ≡ b
same_bytes a b e = (bytes_eq-Decides a b).0 e

key_found : (t : Bool) (k w : List ℕ) (ks ws rest : List (List ℕ)) → bytes_eq k w ≡ t → (after ks ws ≡ Some rest → ws ≡ ks ++ rest) → (elim t [ true ↦ after ks ws | false ↦ None ]) ≡ Some rest → w ∷ ws ≡ (k ∷ ks) ++ rest
key_found true k w ks ws rest t more e = let key = sym (same_bytes k w t) in let behind = more e in λ i. key i ∷ behind i
key_found false k w ks ws rest t more e = absurd cc

-- the words are these first words, and then what is behind them
pub after_found : (ks ws rest : List (List ℕ)) → after ks ws ≡ Some rest → ws ≡ ks ++ rest
unfolding after
after_found [] ws rest e = some_is ws rest e
after_found (k ∷ ks) [] rest e = absurd cc
after_found (k ∷ ks) (w ∷ ws) rest e = key_found (bytes_eq k w) k w ks ws rest refl (after_found ks ws rest) e

behind_keys : (ks rest : List (List ℕ)) → after ks (ks ++ rest) ≡ Some rest
unfolding after
behind_keys [] rest = refl
behind_keys (k ∷ ks) rest = rw (after, (bytes_eq-Decides k k).1 refl) (behind_keys ks rest)

-- what is behind these first words is found
pub after_spelled : (ks ws rest : List (List ℕ)) → ws ≡ ks ++ rest → after ks ws ≡ Some rest
after_spelled ks ws rest e = ap (λ (x : List (List ℕ)). after ks x) e ∙ behind_keys ks rest

-- ---- all words

-- the words have these values one by one
pub each_found : {A : Type 0} (f : List ℕ → Option A) (P : List ℕ → A → Type 0) → ((w : List ℕ) (x : A) → f w ≡ Some x → P w x) → (ws : List (List ℕ)) (xs : List A) → each f ws ≡ Some xs → Each P ws xs
unfolding each
each_found f P is [] [] e = tt
each_found f P is [] (x ∷ xs) e = absurd cc
each_found f P is (w ∷ ws) [] e =
    let first = bind_found (f w) _ [] e in
    let rest = bind_found (each f ws) _ [] first.2 in
    absurd (let k = some_is (first.0 ∷ rest.0) [] rest.2 in cc)
each_found f P is (w ∷ ws) (x ∷ xs) e =
    let first = bind_found (f w) _ (x ∷ xs) e in
    let rest = bind_found (each f ws) _ (x ∷ xs) first.2 in
    let k : first.0 ∷ rest.0 ≡ x ∷ xs = some_is (first.0 ∷ rest.0) (x ∷ xs) rest.2 in
    (is w x (first.1 ∙ cc), each_found f P is ws xs (rest.1 ∙ cc))

-- the values that the words have one by one are found
pub each_spelled : {A : Type 0} (f : List ℕ → Option A) (P : List ℕ → A → Type 0) → ((w : List ℕ) (x : A) → P w x → f w ≡ Some x) → (ws : List (List ℕ)) (xs : List A) → Each P ws xs → each f ws ≡ Some xs
unfolding each
each_spelled f P is [] [] h = refl
each_spelled f P is [] (x ∷ xs) h = absurd h
each_spelled f P is (w ∷ ws) [] h = absurd h
each_spelled f P is (w ∷ ws) (x ∷ xs) h = rw (is w x h.0, each_spelled f P is ws xs h.1) refl

by_rest : {A : Type 0} (found : List A) (x : A) (o : Option (List A)) → option_map (λ xs. (found ++ x ∷ []) ++ xs) o ≡ option_map (λ xs. found ++ xs) (o >>= λ xs. Some (x ∷ xs))
by_rest {A} found x (Some xs) = ap (λ (ys : List A). Some ys) (append_assoc found (x ∷ []) xs)
by_rest found x None = refl

onto_bind : {A : Type 0} (f : List ℕ → Option A) (found : List A) (o : Option A) (ws : List (List ℕ)) → ((x : A) → each_onto f (found ++ x ∷ []) ws ≡ option_map (λ xs. (found ++ x ∷ []) ++ xs) (each f ws)) → (o >>= λ x. each_onto f (found ++ x ∷ []) ws) ≡ option_map (λ xs. found ++ xs) (o >>= λ x. each f ws >>= λ xs. Some (x ∷ xs))
onto_bind f found None ws more = refl
onto_bind f found (Some x) ws more = more x ∙ by_rest found x (each f ws)

-- the values found so far stand before those of the words
onto_found : {A : Type 0} (f : List ℕ → Option A) (found : List A) (ws : List (List ℕ)) → each_onto f found ws ≡ option_map (λ xs. found ++ xs) (each f ws)
unfolding each each_onto
onto_found {A} f found [] = ap (λ (xs : List A). Some xs) (sym (append-nil found))
onto_found f found (w ∷ ws) = onto_bind f found (f w) ws (λ x. onto_found f (found ++ x ∷ []) ws)

from_nothing : {A : Type 0} (o : Option (List A)) → option_map (λ xs. [] ++ xs) o ≡ o
from_nothing (Some xs) = refl
from_nothing None = refl

-- the walk over the words gives the values of all of them
pub each_by_walk : {A : Type 0} (f : List ℕ → Option A) (ws : List (List ℕ)) → each_onto f [] ws ≡ each f ws
each_by_walk f ws = onto_found f [] ws ∙ from_nothing (each f ws)

-- ---- what the laws of forms stand on

-- the first value that is there is one of the two
pub first_found : {A : Type 0} (o p : Option A) (x : A) (P : Type 0) → (o ≡ Some x → P) → (p ≡ Some x → P) → first_some o p ≡ Some x → P
first_found (Some y) p x P one two e = one e
first_found None p x P one two e = two e

-- a value that is made is made of one that was found
pub map_found : {A B : Type 0} (o : Option A) (make : A → B) (y : B) → option_map make o ≡ Some y → (x : A) × (o ≡ Some x) × (make x ≡ y)
map_found (Some x) make y e = (x, refl, some_is (make x) y e)
map_found None make y e = absurd cc

-- a number's text is no word whose first byte is no digit
pub no_keyword : (n k : ℕ) (ks : List ℕ) → n < 2 ^ 64 → is_digit k ≡ false → bytes_eq (decimal n) (k ∷ ks) ≡ false
no_keyword n k ks small other =
    let s = decimal_starts n small in
    let apart : (s.first == k) ≡ false = ne_eqb s.first k (λ (e : s.first ≡ k). let d : is_digit k ≡ true = subst (λ (x : ℕ). is_digit x ≡ true) e s.digit in absurd cc) in
    ap (λ (w : List ℕ). bytes_eq w (k ∷ ks)) s.is ∙ rw apart refl

-- comparing goes both ways
pub bytes_sym : (xs ys : List ℕ) → bytes_eq xs ys ≡ bytes_eq ys xs
bytes_sym [] [] = refl
bytes_sym [] (y ∷ ys) = refl
bytes_sym (x ∷ xs) [] = refl
bytes_sym (x ∷ xs) (y ∷ ys) = rw (nat_eq_equiv.symm x y, bytes_sym xs ys) refl
