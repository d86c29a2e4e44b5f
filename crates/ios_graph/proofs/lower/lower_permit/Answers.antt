use Rattle.std.proofs.Common.{ap, subst, ◌∙◌, List}
use Rattle.std.specs.Prelude.{map}
use Rattle.std.specs.Borrow.{Bor}
use Rattle.ios_tree.specs.declared.item.MapLine.{MapLine}
use Rattle.ios_meaning.specs.Drafts.{entry_of}
use Rattle.ios_meaning.specs.Meaning.{continuation_of}
use Rattle.ios_lower.specs.ChangeSteps.{AreOfEntry}
use Rattle.ios_graph.specs.Rows.{node_behind}
use Rattle.ios_graph.proofs.Lowered.{body_permits}
use Rattle.ios_graph.proofs.lower.lower_permit.Goals as goal

pub returns : goal.returns
returns c =
    body_permits c.args.lists.now.items.now (entry_of c.args.entry.now) c.args.rows.now c.args.core.now c.act_all.new.core c.in_ok-changes.changes.items c.node_behind-behind.result c.in_ok-node.node c.requires.permits
    (c.node_behind-behind.ensures ∙ ap (λ (ls : List (Bor MapLine)). node_behind c.args.rows.now (continuation_of (map (λ l. l.now) ls))) c.as_slice.ensures.value)
    (subst (λ (ls : List (Bor MapLine)). AreOfEntry c.args.lists.now.items.now (map (λ l. l.now) ls) c.in_ok-changes.changes.items) c.as_slice-2.ensures.value c.in_ok-changes.ensures)
    c.in_ok-node.ensures
