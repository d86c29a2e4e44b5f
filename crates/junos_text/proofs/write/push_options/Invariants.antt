use Rattle.std.proofs.Common.{◌≡◌, ◌++◌, length, map, flat_map}
use Rattle.junos_text.specs.Texts.{option_text}
use Rattle.junos_text.proofs.write.push_options.Given as goal

abbrev pub invariant-loop-rest : goal.invariant-loop-rest
invariant-loop-rest l = l.out.items ++ flat_map option_text l.rest ≡ l.initial.out.items ++ flat_map option_text l.options

abbrev pub decreases-loop-rest : goal.decreases-loop-rest
decreases-loop-rest l = length l.rest
