use Rattle.path_patterns.proofs.RangeWordsBlock.{longer_is}
use Rattle.path_patterns.proofs.range_words.longer_block.Goals as goal

pub returns : goal.returns
returns c =
    longer_is c.args.least c.args.most c.args.front.last c.last_digit-last.result c.args.front.sets c.in_ok-sets.sets c.requires.rises c.requires.many c.requires.front c.last_digit-last.ensures.value c.in_ok-sets.ensures
