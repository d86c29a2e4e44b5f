use Rattle.std.proofs.Common.{◌∙◌}
use Rattle.ios_tree.proofs.Zeros.{last_stays}
use Rattle.ios_tree.proofs.words.without_zeros.Goals as goal

pub returns-after-loop-rest : goal.returns-after-loop-rest
returns-after-loop-rest c = last_stays c.loop-rest.rest.now c.loop-rest-test.false ∙ c.loop-rest.invariant
