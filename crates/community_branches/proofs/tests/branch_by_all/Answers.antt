use Rattle.std.proofs.Common.{refl}
use Rattle.community_branches.proofs.Steps.{all_next}
use Rattle.community_branches.proofs.tests.branch_by_all.Goals as goal

pub loop-rest-preserved : goal.loop-rest-preserved
loop-rest-preserved c =
    all_next c.args.core.now c.loop-rest.core c.branch_by_member.new.core c.args.change.now c.args.rects.now c.loop-rest.rest.now c.last-item.result _ c.args.yes c.args.no c.loop-rest.node c.in_ok-node.node c.requires.of_no
    c.loop-rest.invariant c.in-len1-up.len_at_least c.last-item.is refl c.in_ok-node.ensures
