use Rattle.std.proofs.Common.{sym, ◌∙◌, ◌-◌, true, false, arith}
use Rattle.rpl_calls.specs.Table.{parameter_parts}
use Rattle.rpl_reader.specs.Possible.{known_may}
use Rattle.rpl_reader.proofs.Above.{lower, none_left}
use Rattle.rpl_reader.proofs.given.any_above.Goals as goal

pub returns-then-is_above : goal.returns-then-is_above
returns-then-is_above c =
    lower (known_may c.args.possible.now) (parameter_parts c.args.parameter) c.args.value c.loop-number.number (c.loop-number.number - 1) true _ (omega arith) (sym c.if-is_above.true ∙ c.is_above.ensures) c.loop-number.invariant

pub loop-number-preserved : goal.loop-number-preserved
loop-number-preserved c =
    lower (known_may c.args.possible.now) (parameter_parts c.args.parameter) c.args.value c.loop-number.number (c.loop-number.number - 1) false _ (omega arith) (sym c.if-is_above.false ∙ c.is_above.ensures) c.loop-number.invariant

pub returns : goal.returns
returns c = none_left (known_may c.args.possible.now) (parameter_parts c.args.parameter) c.args.value c.loop-number.number _ (omega arith) c.loop-number.invariant
