use Rattle.std.proofs.Common.{◌∙◌, ◌&&◌, ap, subst, List}
use Rattle.std.specs.Prelude.{not}
use Rattle.route_types.specs.Community.{RectParts, fits}
use Rattle.route_types.specs.Sets.{fits_some}
use Rattle.community_branches.specs.Branches.{IsBranch, some_fitted}
use Rattle.community_branches.proofs.TestLaws.{member_parted}
use Rattle.community_branches.proofs.tests.branch_by_member.Goals as goal

pub returns-in_ok-node-in-Parted : goal.returns-in_ok-node-in-Parted
returns-in_ok-node-in-Parted c =
    let left : List RectParts = c.in_ok-left-in-Parted.left.items in
    member_parted c.args.core.now c.ask_some.new.core c.args.rect.now left c.args.change.now c.member_before.result c.args.yes c.args.no c.in_ok-node-in-Parted.node c.in-Parted.is c.member_before.ensures
    (λ x. c.in_ok-left-in-Parted.ensures x ∙ ap (λ (rs : List RectParts). fits c.args.rect.now x && not (fits_some fits rs x)) c.as_slice.ensures)
    (subst (λ (rs : List RectParts). IsBranch c.args.core.now c.ask_some.new.core (some_fitted rs) c.args.yes c.args.no c.in_ok-node-in-Parted.node) c.as_slice-in-Parted.ensures.value c.in_ok-node-in-Parted.ensures)
