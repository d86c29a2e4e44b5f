use Rattle.std.proofs.Common.{sym, ap, subst, ◌∙◌, List}
use Rattle.route_types.specs.declared.community.Community.{Community}
use Rattle.community_cuts.specs.Earlier.{fitted, ComesTo}
use Rattle.community_cuts.specs.declared.member.Member.{Member}
use Rattle.community_cuts.proofs.FittedAfter.{comes_to}
use Rattle.community_cuts.proofs.member.member_before.Goals as goal

pub returns : goal.returns
returns c =
    let added = c.is_fitted-added.ensures ∙ ap (λ (s : List Community). fitted c.args.rect.now s) c.as_slice.ensures in
    subst (λ (m : Member). ComesTo m c.args.rect.now c.args.change.now) (sym c.member_by.ensures)
    (comes_to c.args.rect.now c.args.change.now c.is_fitted-added.result c.cuts.result added c.cuts.ensures.never c.cuts.ensures.whole)
