use Rattle.std.proofs.Common.{◌≡◌, not, length}
use Rattle.std.specs.List.{list_any}
use Rattle.policy_text.specs.NameSets.{has_name}
use Rattle.policy_text.proofs.name_sets.any_missing.Given as goal

abbrev pub invariant-loop-rest : goal.invariant-loop-rest
invariant-loop-rest l = list_any (λ q. not (has_name l.names q l.sort 0)) l.rest ≡ list_any (λ q. not (has_name l.names q l.sort 0)) l.wanted

abbrev pub decreases-loop-rest : goal.decreases-loop-rest
decreases-loop-rest l = length l.rest
