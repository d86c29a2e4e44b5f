use Rattle.std.proofs.Common.{◌∙◌, ap, [], ◌∷◌}
use Rattle.community_sets.specs.declared.list.CommEntry.{CommEntry}
use Rattle.community_branches.proofs.AskedLaws.{all_branch}
use Rattle.community_branches.proofs.asked.ask_all.Goals as goal

pub returns : goal.returns
returns c =
    all_branch c.args.core.now c.ask.new.core c.args.rects c.in_ok-entries.entries c.in_ok-lists.lists c.args.yes c.args.no c.in_ok-node.node
    (c.in_ok-entries.ensures ∙ ap (λ (e : CommEntry). e ∷ []) c.all_of.ensures) c.in_ok-lists.ensures c.in_ok-node.ensures
