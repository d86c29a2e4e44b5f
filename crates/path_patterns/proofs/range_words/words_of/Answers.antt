use Rattle.path_patterns.specs.DigitRanges.{between}
use Rattle.path_patterns.proofs.RangeWordsGrown.{before_step}
use Rattle.path_patterns.proofs.range_words.words_of.Goals as goal

pub loop-rest-preserved : goal.loop-rest-preserved
loop-rest-preserved c =
    before_step c.loop-rest.words.items c.push_range.new.out.items (between 0 0) c.loop-rest.rest.now c.args.ranges.now c.in-len1-up.len_at_least c.loop-rest.invariant c.in_ok-push_range.ensures
