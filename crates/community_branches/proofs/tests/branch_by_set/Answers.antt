use Rattle.std.proofs.Common.{◌∙◌, ap, subst, sym, List}
use Rattle.std.specs.List.{list_all}
use Rattle.route_types.specs.Community.{RectParts}
use Rattle.route_types.specs.declared.community.Community.{Community}
use Rattle.community_sets.specs.Tests.{is_member}
use Rattle.community_branches.specs.Branches.{IsBranch, all_fitted_behind}
use Rattle.community_branches.specs.Tests.{others_behind}
use Rattle.community_branches.proofs.TestLaws.{set_other, set_same}
use Rattle.community_branches.proofs.tests.branch_by_set.Goals as goal

pub returns-then-not-all_members : goal.returns-then-not-all_members
returns-then-not-all_members c =
    set_other c.args.core.now c.args.members.now c.args.change.now c.args.yes c.args.no c.requires.of_no
    (ap (λ (cs : List Community). list_all (λ x. is_member x c.args.members.now) cs) (sym c.as_slice.ensures) ∙ sym c.all_members.ensures ∙ c.if-not-all_members.true)

pub returns : goal.returns
returns c =
    let points : List RectParts = c.in_ok-points.points.items in
    set_same c.args.core.now c.branch_by_others.new.core c.branch_by_all.new.core c.args.members.now c.args.change.now points c.args.yes c.args.no c.in_ok-alone.alone c.in_ok-node.node c.requires.of_no c.in_ok-points.ensures
    (ap (λ (cs : List Community). list_all (λ x. is_member x c.args.members.now) cs) (sym c.as_slice.ensures) ∙ sym c.all_members.ensures ∙ c.if-not-all_members.false)
    (subst (λ (rs : List RectParts). IsBranch c.args.core.now c.branch_by_others.new.core (others_behind c.args.change.now rs) c.args.yes c.args.no c.in_ok-alone.alone) c.as_slice-2.ensures.value c.in_ok-alone.ensures)
    (subst (λ (rs : List RectParts). IsBranch c.branch_by_others.new.core c.branch_by_all.new.core (all_fitted_behind c.args.change.now rs) c.in_ok-alone.alone c.args.no c.in_ok-node.node) c.as_slice-3.ensures.value c.in_ok-node.ensures)
