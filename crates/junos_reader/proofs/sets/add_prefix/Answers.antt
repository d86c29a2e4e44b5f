use Rattle.junos_reader.proofs.PrefixSets.{prefix_put}
use Rattle.junos_reader.proofs.sets.add_prefix.Goals as goal

pub returns : goal.returns
returns c = prefix_put c.args.prefix.now c.key_of.result c.key_of.ensures c.args.prefixes.now c.insert.new.self c.in_ok-insert.ensures.updates
