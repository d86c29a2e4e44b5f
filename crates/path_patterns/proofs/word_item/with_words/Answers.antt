use Rattle.path_patterns.proofs.ItemWords.{becomes_there}
use Rattle.path_patterns.proofs.word_item.with_words.Goals as goal

pub returns : goal.returns
returns c =
    becomes_there c.args.item.now c.args.ranges.now c.in_ok-words.words c.args.number c.ranges.number.fits c.requires.counts c.requires.one c.requires.rising c.requires.same c.requires.first
    c.in_ok-words.ensures.shaped c.in_ok-words.ensures.runs c.in_ok-words.ensures.holds
