use Rattle.ios_lower.proofs.ChangeLaws.{not_deleting}
use Rattle.ios_lower.proofs.changes.line_changes.Goals as goal

pub returns : goal.returns
returns c = c.in_ok-changes-2.ensures c.args.lists.now.items.now (not_deleting c.args.line.now c.in_default.not-DeleteCommunities)
