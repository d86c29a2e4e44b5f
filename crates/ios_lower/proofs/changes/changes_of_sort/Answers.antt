use Rattle.std.proofs.Common.{subst, List}
use Rattle.std.specs.Prelude.{map}
use Rattle.std.specs.Borrow.{Bor}
use Rattle.path_patterns.proofs.Lists.{first_tail}
use Rattle.ios_tree.specs.declared.item.MapLine.{MapLine}
use Rattle.ios_lower.specs.ChangeSteps.{AreBefore}
use Rattle.ios_lower.proofs.changes.changes_of_sort.Goals as goal

pub loop-rest-preserved : goal.loop-rest-preserved
loop-rest-preserved c =
    c.in_ok-push_line.ensures (map (λ l. l.now) c.args.lines.now) _
    (subst (λ (ls : List (Bor MapLine)). AreBefore c.args.lists.now.items.now c.args.deleting (map (λ l. l.now) c.args.lines.now) (map (λ l. l.now) ls) c.loop-rest.found.items)
    (first_tail c.loop-rest.rest.now c.line-item.result c.in-len1-up.len_at_least c.line-item.is) c.loop-rest.invariant)
