use Rattle.std.proofs.Common.{refl}
use Rattle.rpl_facts.proofs.Wide.{goes, ends}
use Rattle.rpl_facts.proofs.blocks.wide_sets.Goals as goal

pub loop-rest-preserved : goal.loop-rest-preserved
loop-rest-preserved c = goes c.args.items.now c.loop-rest.rest.now c.first-item.result _ c.loop-rest.names c.note_wide.new.names c.loop-rest.name _ c.in-len1-up.len_at_least c.first-item.is refl c.in_ok-name.ensures c.loop-rest.invariant

pub returns : goal.returns
returns c = ends c.args.items.now c.loop-rest.rest.now c.loop-rest.names c.loop-rest.name c.in_default.len_below c.loop-rest.invariant
