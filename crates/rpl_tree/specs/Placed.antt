-- What the walk over statements owes: whether a word of `if`s was in its place, and where it stands then.
use Rattle.std.specs.Prelude.{◌≡◌, Bool, true, false, List, Option, Some, None}
use Rattle.text_words.specs.declared.fault.TextFault.{TextFault}
use Rattle.text_words.specs.declared.rpl_blocks.BlockKind.{BlockKind}
use Rattle.text_words.specs.declared.statement.Statement.{Statement}
use Rattle.rpl_tree.specs.declared.standing.Standing.{Standing}
use Rattle.rpl_tree.specs.Blocks.{past}
use Rattle.rpl_tree.specs.Broken.{fault_at}

-- a word was in its place, and these `if`s are open behind it; or it wasn't
abbrev pub IsPlaced : Option (List Bool) → List Bool → Bool → Type 0
IsPlaced behind ifs true = behind ≡ Some ifs
IsPlaced behind ifs false = behind ≡ None

-- a statement has this fault; where it has none, what is behind it stands so
abbrev pub Takes : Option BlockKind → List Bool → Statement → List Statement → Option TextFault → Standing → Type 0
Takes block ifs s behind (Some fault) after = fault_at block ifs s behind ≡ Some fault
Takes block ifs s behind None after = (fault_at block ifs s behind ≡ None) × (after ≡ past block ifs s.words)
