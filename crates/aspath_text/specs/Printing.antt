-- What the readers and the printers of patterns answer.
use Rattle.std.specs.Prelude.{◌≡◌, ℕ, List, Option, Some, None, Result, Ok, Err, ◌↔◌}
use Rattle.path_patterns.specs.Items.{IsPath, BranchMatches, Matches}
use Rattle.path_patterns.specs.Search.{Found}
use Rattle.aspath_text.specs.IosGrammar.{SpellsPattern}
use Rattle.aspath_text.specs.JunosGrammar.{SpellsJunos}
use Rattle.aspath_text.specs.declared.fault.PatternFault.{PatternFault}
use Rattle.aspath_text.specs.declared.fault.PatternFault.TheVariants.{NotShaped, Memory}
use Rattle.path_patterns.specs.declared.items.TokenBranch.{TokenBranch}
use Rattle.path_patterns.specs.declared.items.TokenPattern.{TokenPattern}
use Rattle.path_patterns.specs.declared.pattern.IosBranch.{IosBranch}

-- a reading gives the value that the function finds, and NotShaped exactly where it finds none
abbrev pub Reads : {A : Type 0} → Option A → Result A PatternFault → Type 0
Reads found (Ok x) = found ≡ Some x
Reads found (Err NotShaped) = found ≡ None
Reads found (Err Memory) = Unit {0}

-- a text for Junos, which matches the same paths; none exactly where no path is matched
abbrev pub PrintsJunos : TokenBranch → Option (List ℕ) → Type 0
PrintsJunos b None = (path : List ℕ) → IsPath path → BranchMatches b path → ⊥
PrintsJunos b (Some text) =
    ((path : List ℕ) × IsPath path × BranchMatches b path)
    × ((p : TokenPattern) × SpellsJunos text p × ((path : List ℕ) → IsPath path → Matches p path ↔ BranchMatches b path))

-- a text for IOS, which is found in the same paths; none exactly where no path is matched
abbrev pub PrintsIos : TokenPattern → Option (List ℕ) → Type 0
PrintsIos p None = (path : List ℕ) → IsPath path → Matches p path → ⊥
PrintsIos p (Some text) =
    ((path : List ℕ) × IsPath path × Matches p path)
    × ((bs : List IosBranch) × SpellsPattern text bs × ((path : List ℕ) → IsPath path → Found bs path ↔ Matches p path))
