use Rattle.std.proofs.Common.{◌∙◌, sym}
use Rattle.text_words.proofs.JunosGiven.{takes_more}
use Rattle.text_words.proofs.junos_cut.word_step.Goals as goal

pub returns-clause-takes : goal.returns-clause-takes
returns-clause-takes c = rw (sym c.is_plain.ensures ∙ c.if-is_plain.false) (takes_more _ _ _ _ _ _ _ c.up_to.ensures c.in_ok-take_word.ensures c.outside_step.ensures.takes)
