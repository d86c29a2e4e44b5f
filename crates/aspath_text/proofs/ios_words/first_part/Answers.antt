use Rattle.aspath_text.proofs.IosReadCuts.{first_part}
use Rattle.aspath_text.proofs.ios_words.first_part.Goals as goal

pub returns : goal.returns
returns c = first_part c.args.byte 0 c.part_length-length.result c.args.text.now c.part_length-length.ensures.value
