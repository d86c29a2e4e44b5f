use Rattle.std.proofs.Common.{◌≡◌, ◌++◌, length, flat_map}
use Rattle.rpl_text.specs.Patterns.{set_text}
use Rattle.rpl_text.proofs.patterns.push_sets.Given as goal

abbrev pub invariant-loop-rest : goal.invariant-loop-rest
invariant-loop-rest l = l.out.items ++ flat_map set_text l.rest ≡ l.initial.out.items ++ flat_map set_text l.sets

abbrev pub decreases-loop-rest : goal.decreases-loop-rest
decreases-loop-rest l = length l.rest
