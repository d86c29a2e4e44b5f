use Rattle.ios_lower.proofs.ChangeLaws.{plain_line}
use Rattle.ios_lower.proofs.changes.kept_line.Goals as goal

pub returns : goal.returns
returns c = λ all e. plain_line all c.args.line.now c.in_ok-changes.changes.items e c.in_ok-changes.ensures.small c.in_ok-changes.ensures.same
