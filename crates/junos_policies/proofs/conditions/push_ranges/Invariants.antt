use Rattle.std.proofs.Common.{◌≡◌, ◌++◌, length, map}
use Rattle.junos_tree.specs.declared.item.Condition.TheVariants.{RouteFilter}
use Rattle.junos_policies.proofs.conditions.push_ranges.Given as goal

abbrev pub invariant-loop-rest : goal.invariant-loop-rest
invariant-loop-rest l = l.out ++ map (λ x. RouteFilter x) l.rest ≡ l.fn.out ++ map (λ x. RouteFilter x) l.ranges

abbrev pub decreases-loop-rest : goal.decreases-loop-rest
decreases-loop-rest l = length l.rest
