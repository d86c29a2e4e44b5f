-- A list that has grown at its front.
use Rattle.std.specs.Prelude.{◌≡◌, List, ◌++◌}
use Rattle.std.specs.List.{AllByRecursion}

-- the list is the old one behind some more elements, of each of which P holds
pub record Grows {K : Type 0} (P : K → Type 0) (old new : List K) : Type 0 where
  pub more : List K
  pub grown : new ≡ more ++ old
  pub each : AllByRecursion P more
