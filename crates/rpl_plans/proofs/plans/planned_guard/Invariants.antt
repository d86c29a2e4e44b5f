use Rattle.std.proofs.Common.{◌≡◌, ◌++◌, true, List, length}
use Rattle.std.specs.List.{list_all, AllByRecursion}
use Rattle.policy_core.specs.Sayable.{rpl_atom}
use Rattle.rpl_plans.specs.Fits.{FitsLiteral}
use Rattle.rpl_plans.specs.Plans.{SaysGuard}
use Rattle.rpl_plans.specs.declared.step.PlannedLiteral.{PlannedLiteral}
use Rattle.rpl_plans.proofs.plans.planned_guard.Given as goal

abbrev pub invariant-loop-rest : goal.invariant-loop-rest
invariant-loop-rest l = record {
  says : (ps : List PlannedLiteral) → SaysGuard l.rest ps → SaysGuard l.guard (l.found ++ ps);
  fits : AllByRecursion FitsLiteral l.found;
  range : list_all (λ k. rpl_atom k.atom) l.rest ≡ true;
}

abbrev pub decreases-loop-rest : goal.decreases-loop-rest
decreases-loop-rest l = length l.rest
