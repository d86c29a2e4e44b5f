-- A walk over a list from its end.
use Rattle.std.specs.Prelude.{◌≡◌, List, ◌++◌}

-- of all elements those at the front are left, and this holds of those behind
pub record Done {A : Type 0} (P : List A → Type 0) (all front : List A) : Type 0 where
  pub behind : List A
  pub split : all ≡ front ++ behind
  pub holds : P behind
