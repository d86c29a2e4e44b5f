use Rattle.std.proofs.Common.{◌≡◌, ◌++◌, ℕ, List, length}
use Rattle.std.specs.Prelude.{map}
use Rattle.ios_lower.specs.Named.{entries_under}
use Rattle.ios_lower.specs.Lists.{numbered, listed}
use Rattle.ios_lower.proofs.prefix_lists.by_name.Given as goal

abbrev pub invariant-loop-rest : goal.invariant-loop-rest
invariant-loop-rest l = (q : List ℕ) → entries_under l.lists q ++ listed q (map numbered l.rest) ≡ listed q (map numbered l.entries)

abbrev pub decreases-loop-rest : goal.decreases-loop-rest
decreases-loop-rest l = length l.rest
