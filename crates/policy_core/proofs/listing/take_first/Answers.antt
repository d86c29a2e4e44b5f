use Rattle.std.proofs.Common.{ne_eqb}
use Rattle.policy_core.proofs.WaitingLaws.{first_waits}
use Rattle.policy_core.proofs.listing.take_first.Goals as goal

pub returns : goal.returns
returns c =
    first_waits c.args.core.now c.args.waiting.now c.requires.others c.args.yes c.args.no c.args.guard c.args.found.now c.push.new.self (ne_eqb c.args.yes c.args.no c.if-yes-no.false) c.requires.first c.in_ok-push.ensures
