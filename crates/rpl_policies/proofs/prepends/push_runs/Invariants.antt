use Rattle.std.proofs.Common.{◌≡◌, ◌≤◌, ◌++◌, length}
use Rattle.rpl_layout.specs.Statements.{prepends_from}
use Rattle.rpl_policies.specs.Acts.{acts}
use Rattle.rpl_policies.proofs.prepends.push_runs.Given as goal

abbrev pub invariant-loop-rest : goal.invariant-loop-rest
invariant-loop-rest l = (l.run.times ≤ 63) × (l.out ++ acts (prepends_from l.run.number l.run.times l.rest) ≡ l.fn.out ++ acts (prepends_from l.first 1 l.others))

abbrev pub decreases-loop-rest : goal.decreases-loop-rest
decreases-loop-rest l = length l.rest
