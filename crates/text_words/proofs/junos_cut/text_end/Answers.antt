use Rattle.text_words.proofs.JunosGiven.{gives_behind}
use Rattle.text_words.proofs.junos_cut.text_end.Goals as goal

pub returns-in_ok-take_word-in-InWord : goal.returns-in_ok-take_word-in-InWord
returns-in_ok-take_word-in-InWord c = rw c.in-InWord.is (gives_behind _ _ _ _ _ c.up_to.ensures c.in_ok-take_word-in-InWord.ensures c.text_end-in-InWord.ensures)
