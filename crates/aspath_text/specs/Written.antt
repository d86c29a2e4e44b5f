-- The text of the branches of a pattern, as IOS branches with a `|` before each of them.
use Rattle.std.specs.Prelude.{◌≡◌, ℕ, List, [], ◌∷◌, ◌++◌, Option, Some, None, ◌↔◌, ◌⊎◌}
use Rattle.std.specs.List.{AllByRecursion}
use Rattle.path_patterns.specs.Items.{IsPath, Matches}
use Rattle.path_patterns.specs.SamePaths.{BranchesTake}
use Rattle.aspath_text.specs.IosText.{barred_text, IsPrintable}
use Rattle.path_patterns.specs.declared.items.TokenBranch.{TokenBranch}
use Rattle.path_patterns.specs.declared.pattern.IosBranch.{IosBranch}

-- some branch matches a path
abbrev pub SomeMatches : List TokenBranch → List ℕ → Type 0
SomeMatches branches path = Matches (record { branches = branches }) path

-- the text is that of IOS branches that take the same paths; some path is taken where it has a branch
pub record IsWritten (branches : List TokenBranch) (text : List ℕ) : Type 0 where
  pub written : List IosBranch
  pub spelled : text ≡ barred_text written
  pub printable : AllByRecursion IsPrintable written
  pub same : (path : List ℕ) → IsPath path → BranchesTake written path ↔ SomeMatches branches path
  pub some : (written ≡ []) ⊎ ((path : List ℕ) × IsPath path × SomeMatches branches path)

-- the text of a branch is put at the end
abbrev pub AddsBranch : List ℕ → TokenBranch → List ℕ → Type 0
AddsBranch before b now = (more : List ℕ) × (now ≡ before ++ more) × IsWritten (b ∷ []) more

-- what stands behind the first byte, where there is one
abbrev pub behind_first_byte : List ℕ → Option (List ℕ)
behind_first_byte [] = None
behind_first_byte (c ∷ cs) = Some cs
