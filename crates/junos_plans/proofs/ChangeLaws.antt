-- One more number in front of a path.
use Rattle.std.proofs.Common.{◌≡◌, refl, ℕ, List, [], ◌∷◌, ◌++◌}
use Rattle.junos_plans.specs.Changes.{prepended}

pub one_more : (ns : List ℕ) (n : ℕ) (path : List ℕ) → prepended (ns ++ n ∷ []) path ≡ n ∷ prepended ns path
unfolding prepended
one_more [] n path = refl
one_more (m ∷ ms) n path = one_more ms n (m ∷ path)

pub none_more : (ns path : List ℕ) → ns ≡ [] → prepended ns path ≡ path
unfolding prepended
none_more ns path e = rw e refl
