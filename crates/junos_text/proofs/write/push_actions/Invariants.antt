use Rattle.std.proofs.Common.{◌≡◌, ◌++◌, length, map, flat_map}
use Rattle.junos_text.specs.Texts.{actions_text}
use Rattle.junos_text.proofs.write.push_actions.Given as goal

abbrev pub invariant-loop-rest : goal.invariant-loop-rest
invariant-loop-rest l = l.out.items ++ actions_text l.rest ≡ l.initial.out.items ++ actions_text l.actions

abbrev pub decreases-loop-rest : goal.decreases-loop-rest
decreases-loop-rest l = length l.rest
