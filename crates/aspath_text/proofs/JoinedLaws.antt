-- Texts joined by a byte: the first one and the byte before each other; joined by a space they are spaced.
use Rattle.std.proofs.Common.{◌≡◌, refl, sym, ap, append-nil, ℕ, List, [], ◌∷◌, ◌++◌, map, flat_map, arith}
use Rattle.aspath_text.specs.IosGrammar.{joined_by}
use Rattle.aspath_text.specs.JunosGrammar.{AreSpaced}

-- the first text, and each other one behind the byte
pub joined_behind : {A : Type 0} (b : ℕ) (f : A → List ℕ) (x : A) (xs : List A) → joined_by b (map f (x ∷ xs)) ≡ f x ++ flat_map (λ y. b ∷ f y) xs
unfolding joined_by
joined_behind b f x [] = sym (append-nil (f x))
joined_behind b f x (y ∷ ys) = ap (λ (t : List ℕ). f x ++ (b ∷ t)) (joined_behind b f y ys)

-- texts joined by a space are spaced
pub joined_spaced : (t : List ℕ) (ts : List (List ℕ)) → AreSpaced (joined_by 32 (t ∷ ts)) (t ∷ ts)
unfolding joined_by AreSpaced
joined_spaced t [] = refl
joined_spaced t (u ∷ us) = (32 ∷ [], joined_by 32 (u ∷ us), refl, omega arith, refl, joined_spaced u us)
