use Rattle.std.proofs.Common.{◌≡◌, ◌++◌, length}
use Rattle.std.specs.Prelude.{map}
use Rattle.ios_lower.specs.Lists.{numbered, family_entries}
use Rattle.ios_lower.proofs.prefix_lists.family_entries.Given as goal

abbrev pub invariant-loop-rest : goal.invariant-loop-rest
invariant-loop-rest l = map numbered l.found.items ++ family_entries l.family l.rest ≡ family_entries l.family l.items

abbrev pub decreases-loop-rest : goal.decreases-loop-rest
decreases-loop-rest l = length l.rest
