-- Classes of paths in which patterns answer alike.
use Rattle.std.specs.Prelude.{◌≡◌, ℕ, ◌<◌, List, Some, ◌↔◌, length, slice_get}
use Rattle.path_patterns.specs.Items.{IsPath}
use Rattle.path_patterns.specs.PathMatches.{path_matches}
use Rattle.path_patterns.specs.declared.items.TokenPattern.{TokenPattern}
use Rattle.path_classes.specs.Walk.{class_in, member_at, answer_at}
use Rattle.path_classes.specs.declared.classes.Classes.{Classes}

-- each pattern matches both paths or none of them
abbrev pub Alike : List TokenPattern → List ℕ → List ℕ → Type 0
Alike patterns p q = (j : ℕ) (pattern : TokenPattern) → slice_get patterns j ≡ Some pattern → path_matches pattern p ≡ path_matches pattern q

-- these are the classes of the patterns
pub record Tells (patterns : List TokenPattern) (c : Classes) : Type 0 where
  -- two paths have one class exactly where all patterns answer alike
  pub alike : (p q : List ℕ) → IsPath p → IsPath q → (class_in c p ≡ class_in c q) ↔ Alike patterns p q
  -- which is below the count
  pub within : (p : List ℕ) → IsPath p → class_in c p < length c.members
  -- each class has a path
  pub path : (k : ℕ) → k < length c.members → IsPath (member_at c k)
  -- which is of that class
  pub member : (k : ℕ) → k < length c.members → class_in c (member_at c k) ≡ k
  -- the answer of a class is that of the pattern on each of its paths
  pub answer : (p : List ℕ) (j : ℕ) (pattern : TokenPattern) → IsPath p → slice_get patterns j ≡ Some pattern → answer_at c (class_in c p) j ≡ path_matches pattern p
