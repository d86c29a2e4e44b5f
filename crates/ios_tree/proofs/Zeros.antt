-- The zeros in front of a list's number.
use Rattle.std.proofs.Common.{◌≡◌, refl, ℕ, ◌≤◌, List, [], ◌∷◌, length, arith}
use Rattle.ios_tree.specs.Names.{without_zeros}

-- no zero goes where one byte is left
pub last_stays : (text : List ℕ) → length text ≤ 1 → text ≡ without_zeros text
last_stays [] h = refl
last_stays (c ∷ []) h = refl
last_stays (c ∷ d ∷ cs) h = absurd (omega arith)
