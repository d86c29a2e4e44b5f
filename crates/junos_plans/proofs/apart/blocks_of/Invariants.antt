use Rattle.std.proofs.Common.{◌≡◌, ◌++◌, map, length}
use Rattle.std.specs.List.{All, AllByRecursion}
use Rattle.junos_plans.specs.Apart.{IsBlock}
use Rattle.junos_plans.specs.Fits.{FitsRange}
use Rattle.junos_plans.proofs.apart.blocks_of.Given as goal

abbrev pub invariant-loop-rest : goal.invariant-loop-rest
invariant-loop-rest l = record {
  ranges : map (λ b. b.range) l.found.items ++ l.rest ≡ l.ranges;
  blocks : All IsBlock l.found.items;
  fits : AllByRecursion FitsRange l.rest;
}

abbrev pub decreases-loop-rest : goal.decreases-loop-rest
decreases-loop-rest l = length l.rest
