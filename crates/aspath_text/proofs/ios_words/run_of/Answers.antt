use Rattle.aspath_text.proofs.IosReadRuns.{shifts_rise, digit_below}
use Rattle.aspath_text.proofs.ios_words.run_of.Goals as goal

pub overflow_sub-result-3 : goal.overflow_sub-result-3
overflow_sub-result-3 c = shifts_rise c.args.least c.args.most c.if-most-least.false (digit_below c.args.most _ c.if-not-is_ascii_digit-2.false c.is_ascii_digit-else-not-is_ascii_digit.ensures.cases)
