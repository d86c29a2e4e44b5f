use Rattle.std.proofs.Common.{ap, ◌∙◌, ℕ, ◌+◌, ◌-◌, ◌++◌, arith}
use Rattle.path_patterns.specs.DigitRanges.{each_spread}
use Rattle.path_patterns.proofs.DigitSteps.{each_next, each_end}
use Rattle.path_patterns.proofs.digit_ranges.push_each.Goals as goal

pub loop-number-preserved : goal.loop-number-preserved
loop-number-preserved c =
    (each_next (c.from-end.result + 1) c.loop-number.number c.args.runs.now c.loop-number.out.items c.push_one.new.out.items _ (omega arith) c.in_ok-push_one.ensures c.loop-number.invariant.0, omega arith, omega arith)

pub returns : goal.returns
returns c =
    each_end (c.from-end.result + 1) c.loop-number.number c.args.runs.now c.loop-number.out.items _ (omega arith) c.loop-number.invariant.0
    ∙ ap (λ (e : ℕ). c.args.out.now.items ++ each_spread (e - c.args.range.now.least) c.args.range.now.least c.args.runs.now) c.loop-number.invariant.2
