use Rattle.std.proofs.Common.{◌≡◌, ◌++◌, length}
use Rattle.path_patterns.specs.TokenForm.{later_items}
use Rattle.path_patterns.proofs.token_form.push_later.Given as goal

abbrev pub invariant-loop-rest : goal.invariant-loop-rest
invariant-loop-rest l = l.out.items ++ later_items l.rest ≡ l.initial.out.items ++ later_items l.pieces

abbrev pub decreases-loop-rest : goal.decreases-loop-rest
decreases-loop-rest l = length l.rest
