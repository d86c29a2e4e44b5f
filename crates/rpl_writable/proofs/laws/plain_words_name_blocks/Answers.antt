use Rattle.rpl_writable.proofs.NameLaws.{sort_heads}
use Rattle.rpl_writable.proofs.laws.plain_words_name_blocks.Goals as goal

pub returns : goal.returns
returns c = sort_heads
