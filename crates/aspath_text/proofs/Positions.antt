-- Where the first item that passes a test stands, and how long the items before it are.
use Rattle.std.proofs.Common.{◌≡◌, refl, ◌∙◌, ℕ, ◌≤◌, Bool, true, false, not, cond, ltb, List, length, Some, None, arith}
use Rattle.std.specs.Prelude.{unwrap_or}
use Rattle.std.specs.List.{position, position_or_len}
use Rattle.std.proofs.lemmas.Bool.{ltb-false}
use Rattle.std.proofs.lemmas.List.Sums.{prefix_len-le-length}

place_or : (b : Bool) (n m : ℕ) → ltb n m ≡ b → n ≤ m → unwrap_or (cond b (Some n) None) m ≡ n
place_or true n m e h = refl
place_or false n m e h = omega (arith, ltb-false n m e)

-- a place, or the length where there is none, is how far the test failed
pub len_by_position : {A : Type 0} (p : A → Bool) (xs : List A) (n : ℕ) → n ≡ unwrap_or (position p xs) (length xs) → n ≡ position_or_len p xs
len_by_position p xs n e = e ∙ place_or (ltb (position_or_len p xs) (length xs)) (position_or_len p xs) (length xs) refl (prefix_len-le-length (λ x. not (p x)) xs)
