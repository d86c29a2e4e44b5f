use Rattle.junos_text.specs.Texts.{whole_text}
use Rattle.junos_text.proofs.write.push_options_block.Goals as goal

pub returns : goal.returns
unfolding whole_text
returns c = c.push_whole.ensures
