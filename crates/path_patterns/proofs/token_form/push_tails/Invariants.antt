use Rattle.std.proofs.Common.{◌≡◌, ◌++◌, length, map}
use Rattle.path_patterns.specs.TokenForm.{tail_item}
use Rattle.path_patterns.proofs.token_form.push_tails.Given as goal

abbrev pub invariant-loop-rest : goal.invariant-loop-rest
invariant-loop-rest l = l.out.items ++ map tail_item l.rest ≡ l.initial.out.items ++ map tail_item l.tails

abbrev pub decreases-loop-rest : goal.decreases-loop-rest
decreases-loop-rest l = length l.rest
