use Rattle.std.proofs.Common.{length}
use Rattle.rpl_facts.specs.Told.{IsWidening}
use Rattle.rpl_facts.proofs.blocks.wide_sets.Given as goal

abbrev pub invariant-loop-rest : goal.invariant-loop-rest
invariant-loop-rest l = IsWidening l.names l.name l.rest l.items

abbrev pub decreases-loop-rest : goal.decreases-loop-rest
decreases-loop-rest l = length l.rest
