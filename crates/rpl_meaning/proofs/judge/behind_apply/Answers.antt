use Rattle.std.proofs.Common.{ap, ◌∙◌, Some}
use Rattle.rpl_meaning.specs.Communities.{stepped}
use Rattle.rpl_meaning.specs.Walk.{Ending}
use Rattle.rpl_meaning.proofs.RunLaws.{goes_behind, accepts_behind, rejects_behind}
use Rattle.rpl_meaning.proofs.judge.behind_apply.Goals as goal

pub returns-in-GoesOn : goal.returns-in-GoesOn
returns-in-GoesOn c = λ go p r there.
    goes_behind go p r c.args.place c.args.before c.in-GoesOn.later c.in_ok-changes-in-GoesOn.changes c.either-ticket.result (there ∙ ap (λ (e : Ending). Some e) c.in-GoesOn.is) c.either-ticket.ensures (c.in_ok-changes-in-GoesOn.ensures.leaves stepped p.table)

pub returns-in-Accepted : goal.returns-in-Accepted
returns-in-Accepted c = λ go p r there.
    accepts_behind go p r c.args.place c.args.before c.in-Accepted.later c.in_ok-changes-in-Accepted.changes (there ∙ ap (λ (e : Ending). Some e) c.in-Accepted.is) (c.in_ok-changes-in-Accepted.ensures.leaves stepped p.table)

pub returns : goal.returns
returns c = λ go p r there. rejects_behind go p r c.args.place c.args.before (there ∙ ap (λ (e : Ending). Some e) c.in-Rejected.is)
