use Rattle.std.proofs.Common.{◌≡◌, length}
use Rattle.std.specs.List.{list_any}
use Rattle.policy_text.specs.NameSets.{has_name}
use Rattle.junos_reader.proofs.faults.any_has.Given as goal

abbrev pub invariant-loop-rest : goal.invariant-loop-rest
invariant-loop-rest l = list_any (λ q. has_name l.names q 0 0) l.rest ≡ list_any (λ q. has_name l.names q 0 0) l.policies

abbrev pub decreases-loop-rest : goal.decreases-loop-rest
decreases-loop-rest l = length l.rest
