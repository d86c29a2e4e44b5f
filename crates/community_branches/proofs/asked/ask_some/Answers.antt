use Rattle.community_branches.proofs.AskedLaws.{some_branch}
use Rattle.community_branches.proofs.asked.ask_some.Goals as goal

pub returns : goal.returns
returns c =
    some_branch c.args.core.now c.ask.new.core c.args.rects.now c.in_ok-entries.entries c.in_ok-lists.lists c.args.yes c.args.no c.in_ok-node.node c.in_ok-entries.ensures c.in_ok-lists.ensures c.in_ok-node.ensures
