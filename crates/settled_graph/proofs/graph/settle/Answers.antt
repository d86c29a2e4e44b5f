use Rattle.settled_graph.proofs.MakeLaws.{root_says}
use Rattle.settled_graph.proofs.graph.settle.Goals as goal

pub returns-clause-said : goal.returns-clause-said
returns-clause-said c =
    root_says c.args.core.now c.settle_key.new.settled (record { place = c.place.result; pending = c.none.result }) c.args.node c.in_ok-found.found c.place.ensures
    c.none.ensures.said c.none.ensures.apart c.in_ok-found.ensures
