use Rattle.pending_changes.proofs.ListedLaws.{listed_says}
use Rattle.pending_changes.proofs.pending.Pending.changes.Goals as goal

pub returns-clause-said : goal.returns-clause-said
returns-clause-said c = listed_says c.args.self.now c.in_ok-changes.changes c.in_ok-changes.ensures
