use Rattle.std.proofs.Common.{◌≡◌, length}
use Rattle.junos_meaning.specs.Longest.{longest_from}
use Rattle.junos_meaning.proofs.longest.longest_length.Given as goal

abbrev pub decreases-loop-rest : goal.decreases-loop-rest
decreases-loop-rest l = length l.rest

abbrev pub invariant-loop-rest : goal.invariant-loop-rest
invariant-loop-rest l = longest_from l.prefix l.longest l.rest ≡ longest_from l.prefix 0 l.filters
