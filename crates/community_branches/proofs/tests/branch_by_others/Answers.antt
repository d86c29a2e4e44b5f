use Rattle.std.proofs.Common.{◌∙◌, ◌&&◌, ◌++◌, ap, subst, List}
use Rattle.std.specs.Prelude.{not}
use Rattle.route_types.specs.Community.{RectParts, fits}
use Rattle.route_types.specs.Sets.{fits_some}
use Rattle.community_branches.specs.Asked.{every}
use Rattle.community_branches.specs.Branches.{IsBranch, some_fitted}
use Rattle.community_branches.proofs.TestLaws.{others_branch}
use Rattle.community_branches.proofs.tests.branch_by_others.Goals as goal

pub returns : goal.returns
returns c =
    let away : List RectParts = c.extend_from_slice.new.self.items in
    let left : List RectParts = c.in_ok-others.others.items in
    others_branch c.args.core.now c.ask_some.new.core c.args.points.now away left c.args.change.now c.args.yes c.args.no c.in_ok-node.node
    (c.in_ok-extend_from_slice.ensures.items ∙ ap (λ (rs : List RectParts). rs ++ c.as_slice.result.now) c.in_ok-away.ensures.items ∙ ap (λ (rs : List RectParts). c.args.points.now ++ rs) c.as_slice.ensures)
    (λ x. c.in_ok-others.ensures x ∙ ap (λ (r : RectParts). fits r x && not (fits_some fits c.as_slice-2.result.now x)) c.every.ensures ∙ ap (λ (rs : List RectParts). fits every x && not (fits_some fits rs x)) c.as_slice-2.ensures.value)
    (subst (λ (rs : List RectParts). IsBranch c.args.core.now c.ask_some.new.core (some_fitted rs) c.args.no c.args.yes c.in_ok-node.node) c.as_slice-3.ensures.value c.in_ok-node.ensures)
