use Rattle.std.proofs.Common.{◌≡◌, ◌++◌, length, flat_map}
use Rattle.aspath_text.specs.IosText.{digit_set_text}
use Rattle.aspath_text.proofs.ios_text.push_digits.Given as goal

abbrev pub invariant-loop-rest : goal.invariant-loop-rest
invariant-loop-rest l = l.out.items ++ flat_map digit_set_text l.rest ≡ l.initial.out.items ++ flat_map digit_set_text l.sets

abbrev pub decreases-loop-rest : goal.decreases-loop-rest
decreases-loop-rest l = length l.rest
