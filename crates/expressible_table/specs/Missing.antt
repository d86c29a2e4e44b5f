-- The first construct that a text of a language can't say.
use Rattle.std.specs.Prelude.{◌≡◌, true, false, List, [], ◌∷◌, ◌++◌, Option, Some, None}
use Rattle.std.specs.List.{AllByRecursion}
use Rattle.expressible_table.specs.Grants.{grants}
use Rattle.expressible_table.specs.declared.construct.Construct.{Construct}
use Rattle.expressible_table.specs.declared.kind.Dialect.{Dialect}

-- each construct is granted to the language
abbrev pub AllGranted : Dialect → List Construct → Type 0
AllGranted target cs = AllByRecursion (λ c. grants c.kind target ≡ true) cs

-- the construct is among these and isn't granted, and those before it are
pub record IsFirstMissing (target : Dialect) (cs : List Construct) (c : Construct) : Type 0 where
  pub before : List Construct
  pub behind : List Construct
  pub among : cs ≡ before ++ c ∷ behind
  pub granted : AllGranted target before
  pub missing : grants c.kind target ≡ false

-- each construct is granted, or this is the first one that isn't
abbrev pub LacksFirst : Dialect → List Construct → Option Construct → Type 0
LacksFirst target cs None = AllGranted target cs
LacksFirst target cs (Some c) = IsFirstMissing target cs c

-- the first construct that isn't granted, if there is one
unfoldable pub first_missing : Dialect → List Construct → Option Construct
first_missing target [] = None
first_missing target (c ∷ cs) = elim (grants c.kind target) [ true ↦ first_missing target cs | false ↦ Some c ]
