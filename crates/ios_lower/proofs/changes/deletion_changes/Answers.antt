use Rattle.ios_lower.proofs.ChangeLaws.{delete_line}
use Rattle.ios_lower.proofs.changes.deletion_changes.Goals as goal

pub returns : goal.returns
returns c = delete_line c.args.lists.now.items.now c.args.list.now c.in_ok-change.change c.in_ok-changes.changes.items c.in_ok-change.ensures c.in_ok-changes.ensures
