use Rattle.std.proofs.Common.{◌∙◌}
use Rattle.rpl_facts.specs.Told.{kind_code}
use Rattle.rpl_facts.proofs.Wide.{blocks_tell}
use Rattle.rpl_facts.proofs.blocks.blocks_of.Goals as goal

pub returns : goal.returns
returns c = λ kind q. c.in_ok-names.ensures q (kind_code kind) 0 ∙ blocks_tell c.args.items.now kind q
