use Rattle.std.proofs.Common.{◌≡◌, ◌++◌, length}
use Rattle.std.specs.Prelude.{map}
use Rattle.ios_reader.specs.Entries.{entries_of}
use Rattle.ios_meaning.specs.Drafts.{entry_of}
use Rattle.ios_meaning.proofs.entries.entries_of.Given as goal

abbrev pub decreases-loop-rest : goal.decreases-loop-rest
decreases-loop-rest l = length l.rest

abbrev pub invariant-loop-rest : goal.invariant-loop-rest
invariant-loop-rest l = map entry_of l.found.items ++ entries_of l.name l.rest ≡ entries_of l.name l.items
