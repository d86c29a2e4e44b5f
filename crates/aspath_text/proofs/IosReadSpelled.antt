-- Patterns, both ways.
use Rattle.std.proofs.Common.{◌≡◌, ℕ, List, Some, Err}
use Rattle.aspath_text.specs.IosGrammar.{SpellsPattern}
use Rattle.aspath_text.specs.IosRead.{ios_pattern_in}
use Rattle.aspath_text.specs.Printing.{Reads}
use Rattle.path_patterns.specs.Shape.{IsShaped}
use Rattle.aspath_text.specs.declared.fault.PatternFault.{PatternFault}
use Rattle.aspath_text.specs.declared.fault.PatternFault.TheVariants.{NotShaped, Memory}
use Rattle.path_patterns.specs.declared.pattern.IosBranch.{IosBranch}
use Rattle.aspath_text.proofs.IosReadFoundPieces.{pattern_found}
use Rattle.aspath_text.proofs.IosReadOnly.{pattern_only}
use Rattle.aspath_text.proofs.IosReadShaped.{is_shaped}

-- what is found is spelled
pub ios_pattern_found : (text : List ℕ) (bs : List IosBranch) → ios_pattern_in text ≡ Some bs → SpellsPattern text bs
ios_pattern_found text bs e = pattern_found text bs e

-- what is spelled is found
pub ios_pattern_only : (text : List ℕ) (bs : List IosBranch) → SpellsPattern text bs → ios_pattern_in text ≡ Some bs
ios_pattern_only text bs h = pattern_only text bs h

-- what is spelled has the shape
pub pattern_shaped : (text : List ℕ) (bs : List IosBranch) → SpellsPattern text bs → IsShaped bs
pattern_shaped text bs h = is_shaped text bs h

-- a pattern that is found has the shape
pub found_shaped : (text : List ℕ) (bs : List IosBranch) → ios_pattern_in text ≡ Some bs → IsShaped bs
found_shaped text bs e = pattern_shaped text bs (ios_pattern_found text bs e)

-- where none is found, none is spelled
pub none_spelled : (text : List ℕ) (fault : PatternFault) → Reads (ios_pattern_in text) (Err fault) → fault ≡ NotShaped → (bs : List IosBranch) → SpellsPattern text bs → ⊥
none_spelled text NotShaped none e bs h = let k = ios_pattern_only text bs h in absurd cc
none_spelled text Memory none e bs h = absurd cc
