use Rattle.std.proofs.Common.{◌≡◌, length}
use Rattle.expressible_table.specs.Missing.{first_missing}
use Rattle.expressible_table.proofs.missing.first_among.Given as goal

abbrev pub invariant-loop-rest : goal.invariant-loop-rest
invariant-loop-rest l = first_missing l.target l.rest ≡ first_missing l.target l.found

abbrev pub decreases-loop-rest : goal.decreases-loop-rest
decreases-loop-rest l = length l.rest
