use Rattle.std.proofs.Common.{◌≡◌, [], length}
use Rattle.rpl_text.specs.Texts.{operands_text}
use Rattle.rpl_text.proofs.conditions.operands.Given as goal

abbrev pub invariant-loop-rest : goal.invariant-loop-rest
invariant-loop-rest l = operands_text l.stack l.rest ≡ operands_text [] l.terms

abbrev pub decreases-loop-rest : goal.decreases-loop-rest
decreases-loop-rest l = length l.rest
