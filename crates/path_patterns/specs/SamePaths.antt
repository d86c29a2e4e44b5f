-- Takes that take the same paths, and takes that take none.
use Rattle.std.specs.Prelude.{ℕ, List, ◌∷◌, ◌↔◌}
use Rattle.path_patterns.specs.Items.{IsPath, SomeOf, Takes, Taken, takes_of}
use Rattle.path_patterns.specs.PathItems.{branch_takes}
use Rattle.path_patterns.specs.declared.items.TokenItem.{TokenItem}
use Rattle.path_patterns.specs.declared.pattern.IosBranch.{IosBranch}

-- a path is taken by the first ones exactly where it is taken by the others
abbrev pub SamePaths : List Takes → List Takes → Type 0
SamePaths ts us = (path : List ℕ) → IsPath path → Taken ts path ↔ Taken us path

-- no path is taken
abbrev pub NoPath : List Takes → Type 0
NoPath ts = (path : List ℕ) → IsPath path → Taken ts path → ⊥

-- no path is taken by an item and what stands behind it
abbrev pub TakesNoPath : TokenItem → Type 0
TakesNoPath i = (ts : List Takes) → NoPath (takes_of i ∷ ts)

-- some branch takes a path
abbrev pub BranchesTake : List IosBranch → List ℕ → Type 0
BranchesTake bs path = SomeOf (λ b. Taken (branch_takes b) path) bs
