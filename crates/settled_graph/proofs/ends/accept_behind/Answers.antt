use Rattle.std.proofs.Common.{[], subst, List}
use Rattle.route_types.specs.declared.change.Change.{Change}
use Rattle.settled_graph.specs.Ends.{Acts}
use Rattle.settled_graph.proofs.EndLaws.{accepts_behind}
use Rattle.settled_graph.proofs.ends.accept_behind.Goals as goal

pub returns : goal.returns
returns c =
    accepts_behind c.args.core.now c.stop.new.self c.act_all.new.core c.in_ok-changes.changes c.args.pending.now c.in_ok-last.last c.in_ok-node.node c.in_ok-last.ensures.made c.in_ok-last.ensures.keeps c.in_ok-changes.ensures.leaves c.in_ok-changes.ensures.said
    (subst (λ (cs : List Change). Acts c.stop.new.self c.act_all.new.core cs [] c.in_ok-last.last c.in_ok-node.node) c.into_vec.ensures c.in_ok-node.ensures)
