use Rattle.path_patterns.proofs.range_words.+block_from.Given as goal

abbrev pub decreases-block_from : goal.decreases-block_from
decreases-block_from l = l.least
