use Rattle.diagram_growth.proofs.comparisons.conjunction.Goals as goal

pub both-requires-clause-of_b : goal.both-requires-clause-of_b
both-requires-clause-of_b c = c.comparison.ensures.keeps.of_store c.loop-pair.all c.loop-pair.invariant.0
