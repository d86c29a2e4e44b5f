use Rattle.std.proofs.Common.{ap, ℕ}
use Rattle.path_patterns.specs.declared.pattern.DigitSet.{DigitSet}
use Rattle.path_patterns.proofs.RangeWordsRuns.{run_shifted}
use Rattle.path_patterns.proofs.range_words.run.Goals as goal

set_of : ℕ → DigitSet
set_of x = record { 0 = x }

pub overflow_sub-result : goal.overflow_sub-result
overflow_sub-result c = (run_shifted c.args.first c.args.last c.requires.rises c.requires.digit).0

pub returns : goal.returns
unfolding set_of
returns c = ap set_of (run_shifted c.args.first c.args.last c.requires.rises c.requires.digit).1
