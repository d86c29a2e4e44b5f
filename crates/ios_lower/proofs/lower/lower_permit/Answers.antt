use Rattle.std.proofs.Common.{refl, sym, subst, true, List}
use Rattle.std.specs.Prelude.{map}
use Rattle.std.specs.Borrow.{Bor}
use Rattle.ios_tree.specs.declared.item.MapLine.{MapLine}
use Rattle.ios_meaning.specs.Drafts.{entry_of}
use Rattle.ios_lower.specs.ChangeSteps.{AreOfEntry}
use Rattle.ios_lower.proofs.Lowered.{body_permits}
use Rattle.ios_lower.proofs.lower.lower_permit.Goals as goal

pub act_all-requires : goal.act_all-requires
act_all-requires c = c.in_ok-end.ensures.made.at.within

pub returns : goal.returns
returns c =
    body_permits c.args.lists.now.items.now (entry_of c.args.entry.now) c.args.core.now c.stop.new.self c.act_all.new.core c.in_ok-changes.changes.items c.in_ok-end.end c.in_ok-node.node true (sym c.requires.permits) refl
    c.in_ok-end.ensures.made c.stop.ensures.keeps
    (subst (λ (ls : List (Bor MapLine)). AreOfEntry c.args.lists.now.items.now (map (λ l. l.now) ls) c.in_ok-changes.changes.items) c.as_slice.ensures.value c.in_ok-changes.ensures)
    c.in_ok-node.ensures
