use Rattle.path_patterns.proofs.RangeWordsBlock.{full_is}
use Rattle.path_patterns.proofs.range_words.full_block.Goals as goal

pub returns : goal.returns
returns c =
    full_is c.args.least c.args.most c.args.fronts.last c.args.fronts.sets c.in_ok-sets.sets c.requires.some c.requires.even c.requires.room c.requires.fronts c.in_ok-sets.ensures
