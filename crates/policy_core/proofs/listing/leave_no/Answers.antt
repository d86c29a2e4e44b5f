use Rattle.std.proofs.Common.{sym, ap, ◌∙◌, ◌∷◌, List}
use Rattle.policy_core.specs.declared.step.Literal.{Literal}
use Rattle.policy_core.proofs.WaitingLaws.{waits, no_waits, no_ends}
use Rattle.policy_core.proofs.listing.leave_no.Goals as goal

pub returns-then-is_end : goal.returns-then-is_end
returns-then-is_end c = no_ends c.args.next.now.end c.args.next.now.guard c.args.no c.args.waiting.now (sym c.is_end.ensures ∙ c.if-is_end.true)

pub returns : goal.returns
returns c =
    no_waits c.args.next.now.end c.args.next.now.guard c.args.no c.args.waiting.now c.push.new.self
    (c.in_ok-push.ensures ∙ ap (λ (guard : List Literal). waits c.args.no c.args.next.now.end guard ∷ c.args.waiting.now) c.in_ok-guard.ensures)
