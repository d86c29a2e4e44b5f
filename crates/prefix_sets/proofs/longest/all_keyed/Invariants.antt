use Rattle.std.proofs.Common.{◌≡◌, ◌++◌, map, length}
use Rattle.std.specs.List.{All}
use Rattle.prefix_sets.specs.LongestEntries.{IsKeyed}
use Rattle.prefix_sets.proofs.longest.all_keyed.Given as goal

abbrev pub invariant-loop-rest : goal.invariant-loop-rest
invariant-loop-rest l = record { ranges : map (λ k. k.range) l.found.items ++ l.rest ≡ l.filters; keyed : All IsKeyed l.found.items }

abbrev pub decreases-loop-rest : goal.decreases-loop-rest
decreases-loop-rest l = length l.rest
