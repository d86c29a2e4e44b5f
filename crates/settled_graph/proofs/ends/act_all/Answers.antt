use Rattle.std.proofs.Common.{subst, List}
use Rattle.route_types.specs.declared.change.Change.{Change}
use Rattle.settled_graph.specs.Ends.{Acts}
use Rattle.settled_graph.proofs.EndLaws.{popped, acts_none, acts_more}
use Rattle.settled_graph.proofs.ends.act_all.Goals as goal

pub loop-change-init : goal.loop-change-init
loop-change-init c = acts_none c.args.core.now c.args.changes.items c.args.behind c.requires

pub act-requires : goal.act-requires
act-requires c = c.loop-change.invariant.within

pub loop-change-preserved : goal.loop-change-preserved
loop-change-preserved c =
    acts_more c.args.core.now c.loop-change.core c.act.new.self c.args.changes.items c.pop.new.self.items c.in-Some.change c.args.behind c.loop-change.node c.in_ok-next.next
    (subst (λ (cs : List Change). Acts c.args.core.now c.loop-change.core c.args.changes.items cs c.args.behind c.loop-change.node)
    (popped c.loop-change.left.items c.pop.new.self.items c.pop.result c.in-Some.change c.pop.ensures.items c.in-Some.is) c.loop-change.invariant)
    c.in_ok-next.ensures.made c.act.ensures.keeps
