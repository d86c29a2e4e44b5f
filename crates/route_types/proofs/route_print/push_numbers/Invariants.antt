use Rattle.std.proofs.Common.{◌≡◌, ◌++◌, length, map}
use Rattle.std.specs.Prelude.{decimal}
use Rattle.text_words.specs.Pieces.{text_behind}
use Rattle.route_types.proofs.route_print.push_numbers.Given as goal

abbrev pub invariant-loop-rest : goal.invariant-loop-rest
invariant-loop-rest l = l.out.items ++ text_behind (map decimal l.rest) ≡ l.initial.out.items ++ text_behind (map decimal l.numbers)

abbrev pub decreases-loop-rest : goal.decreases-loop-rest
decreases-loop-rest l = length l.rest
