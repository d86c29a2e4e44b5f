use Rattle.rpl_words.proofs.Phrases.{parted_cut}
use Rattle.rpl_words.proofs.phrase.parted.Goals as goal

pub returns-clause-value : goal.returns-clause-value
returns-clause-value c = parted_cut c.args.key.now c.in_ok-place.place c.args.words.now c.in_ok-place.ensures.value
