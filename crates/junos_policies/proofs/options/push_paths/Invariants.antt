use Rattle.std.proofs.Common.{◌≡◌, ◌++◌, length, ◌+◌, ◌<◌, ◌^◌}
use Rattle.std.specs.List.{AllByRecursion}
use Rattle.junos_plans.specs.Fits.{FitsText}
use Rattle.junos_layout.specs.Options.{defined_from}
use Rattle.junos_policies.specs.Options.{path_option}
use Rattle.junos_policies.proofs.options.push_paths.Given as goal

abbrev pub invariant-loop-rest : goal.invariant-loop-rest
invariant-loop-rest l = (l.place + length l.rest < 2 ^ 63) × AllByRecursion FitsText l.rest × (l.out ++ defined_from (path_option l.name) l.place l.rest ≡ l.fn.out ++ defined_from (path_option l.name) 0 l.texts)

abbrev pub decreases-loop-rest : goal.decreases-loop-rest
decreases-loop-rest l = length l.rest
