use Rattle.junos_text.specs.Texts.{prepend_text}
use Rattle.junos_text.proofs.actions.push_prepend_word.Goals as goal

pub returns : goal.returns
unfolding prepend_text
returns c = c.push_key_quoted.ensures
