use Rattle.std.proofs.Common.{◌≡◌, length}
use Rattle.std.specs.List.{list_any}
use Rattle.policy_text.specs.NameSets.{has_name}
use Rattle.policy_text.proofs.name_sets.any_marked.Given as goal

abbrev pub invariant-loop-rest : goal.invariant-loop-rest
invariant-loop-rest l = list_any (λ q. has_name l.names q l.sort l.number) l.rest ≡ list_any (λ q. has_name l.names q l.sort l.number) l.wanted

abbrev pub decreases-loop-rest : goal.decreases-loop-rest
decreases-loop-rest l = length l.rest
