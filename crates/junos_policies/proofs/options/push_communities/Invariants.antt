use Rattle.std.proofs.Common.{◌≡◌, ◌++◌, length, ◌+◌, ◌<◌, ◌^◌}
use Rattle.junos_layout.specs.Options.{defined_from}
use Rattle.junos_policies.specs.Options.{community_option}
use Rattle.junos_policies.proofs.options.push_communities.Given as goal

abbrev pub invariant-loop-rest : goal.invariant-loop-rest
invariant-loop-rest l = (l.place + length l.rest < 2 ^ 63) × (l.out ++ defined_from (community_option l.name) l.place l.rest ≡ l.fn.out ++ defined_from (community_option l.name) 0 l.sets)

abbrev pub decreases-loop-rest : goal.decreases-loop-rest
decreases-loop-rest l = length l.rest
