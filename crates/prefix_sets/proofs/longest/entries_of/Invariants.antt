use Rattle.std.proofs.Common.{◌≡◌, ◌++◌, map, length}
use Rattle.prefix_sets.specs.LongestEntries.{entries_of}
use Rattle.prefix_sets.proofs.longest.entries_of.Given as goal

abbrev pub invariant-loop-rest : goal.invariant-loop-rest
invariant-loop-rest l = l.entries ++ entries_of l.most (map (λ k. k.range) l.rest) ≡ entries_of l.most (map (λ k. k.range) l.filters)

abbrev pub decreases-loop-rest : goal.decreases-loop-rest
decreases-loop-rest l = length l.rest
