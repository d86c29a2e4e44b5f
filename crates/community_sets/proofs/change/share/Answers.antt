use Rattle.community_sets.proofs.CutLaws.{share_from, covered_so}
use Rattle.community_sets.proofs.change.share.Goals as goal

pub returns-clause-shared : goal.returns-clause-shared
returns-clause-shared c = share_from c.args.rect.now c.args.other.now c.meet.result c.meet.ensures.rect c.meet.ensures.exact

pub returns-clause-covered : goal.returns-clause-covered
returns-clause-covered c = covered_so c.args.rect.now c.args.other.now c.meet.result c.meet.ensures.rect c.meet.ensures.exact
