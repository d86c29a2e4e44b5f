use Rattle.std.proofs.Common.{subst}
use Rattle.community_cuts.specs.Kept.{RectTaken}
use Rattle.community_cuts.specs.declared.kept.Turn.{Turn}
use Rattle.community_cuts.proofs.KeptLaws.{rects_fail}
use Rattle.community_cuts.proofs.kept.rects_before.Goals as goal

pub returns-in-Fails-clause-tells : goal.returns-in-Fails-clause-tells
returns-in-Fails-clause-tells c =
    rects_fail c.args.rects.now c.loop-rest.kept c.loop-rest.rest.now c.first-item.result c.args.change.now c.loop-rest.invariant
    (subst (λ (t : Turn). RectTaken t c.loop-rest.kept c.take_rect.new.kept c.first-item.result c.args.change.now) c.in-Fails.is c.in_ok-take_rect.ensures) c.in-len1-up.len_at_least c.first-item.is
