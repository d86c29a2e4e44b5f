use Rattle.std.proofs.Common.{◌≡◌, ◌++◌, length, flat_map}
use Rattle.rpl_text.specs.Patterns.{tail_text}
use Rattle.rpl_text.proofs.patterns.push_tails.Given as goal

abbrev pub invariant-loop-rest : goal.invariant-loop-rest
invariant-loop-rest l = l.out.items ++ flat_map tail_text l.rest ≡ l.initial.out.items ++ flat_map tail_text l.tails

abbrev pub decreases-loop-rest : goal.decreases-loop-rest
decreases-loop-rest l = length l.rest
