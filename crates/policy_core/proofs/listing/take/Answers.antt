use Rattle.std.proofs.Common.{◌≡◌, ◌∙◌, ◌<◌, ap, sym, subst, arith, Some}
use Rattle.std.specs.List.{AllByRecursion}
use Rattle.core_nodes.specs.Nodes.{children}
use Rattle.core_nodes.specs.declared.node.NodeKind.TheVariants.{Test, Do, Stop}
use Rattle.policy_core.specs.Waiting.{MayWait, Leaves, TakesFirst}
use Rattle.policy_core.proofs.FoldLaws.{Stands}
use Rattle.policy_core.proofs.SettledLaws.{settled_parts}
use Rattle.policy_core.proofs.ListedLaws.{do_upto, stop_upto}
use Rattle.policy_core.proofs.WaitingLaws.{ended_takes, alone_takes, test_takes}
use Rattle.policy_core.proofs.listing.take.Goals as goal

pub returns-then-is_end : goal.returns-then-is_end
returns-then-is_end c = ended_takes c.args.core.now c.args.waiting.now c.requires.others c.args.next c.args.found.now (sym c.is_end.ensures ∙ c.if-is_end.true)

pub take_first-requires-clause-first : goal.take_first-requires-clause-first
take_first-requires-clause-first c =
    let at : Stands c.args.core.now c.args.next.place (Test c.in-Test.atom c.in-Test.yes c.in-Test.no) = record { facts = c.kind.ensures.facts; there = c.kind.ensures.at.there ∙ ap Some c.in-Test.is } in
    let before = subst (λ k. AllByRecursion (λ child. child < c.args.next.place) (children k)) c.in-Test.is c.kind.ensures.at.before in
    let parts = settled_parts c.args.core.now c.args.next.place c.in-Test.yes c.in-Test.no c.in-Test.atom at c.requires.next.settled in
    subst (λ p. MayWait c.args.core.now p) (sym c.place-in-Test.ensures) (record { within = omega (arith, before.0, c.requires.next.within); settled = parts.0 })

pub take_first-requires-clause-others : goal.take_first-requires-clause-others
take_first-requires-clause-others c =
    let at : Stands c.args.core.now c.args.next.place (Test c.in-Test.atom c.in-Test.yes c.in-Test.no) = record { facts = c.kind.ensures.facts; there = c.kind.ensures.at.there ∙ ap Some c.in-Test.is } in
    let before = subst (λ k. AllByRecursion (λ child. child < c.args.next.place) (children k)) c.in-Test.is c.kind.ensures.at.before in
    let parts = settled_parts c.args.core.now c.args.next.place c.in-Test.yes c.in-Test.no c.in-Test.atom at c.requires.next.settled in
    let later = subst (λ p. MayWait c.args.core.now p) (sym c.place.ensures) (record { within = omega (arith, before.1.0, c.requires.next.within); settled = parts.1 }) in
    c.in_ok-guard-in-Test.ensures.left.may c.args.core.now later c.requires.others

pub returns-in_ok-take_first-in-Test : goal.returns-in_ok-take_first-in-Test
returns-in_ok-take_first-in-Test c =
    let core = c.args.core.now in
    let front = c.args.found.now in
    let left = c.leave.new.waiting in
    let after = c.take_first.new.waiting in
    let found = c.take_first.new.found in
    let at : Stands core c.args.next.place (Test c.in-Test.atom c.in-Test.yes c.in-Test.no) = record { facts = c.kind.ensures.facts; there = c.kind.ensures.at.there ∙ ap Some c.in-Test.is } in
    let before = subst (λ k. AllByRecursion (λ child. child < c.args.next.place) (children k)) c.in-Test.is c.kind.ensures.at.before in
    let leaves = subst (λ p. Leaves c.args.next.end c.args.next.guard p c.args.waiting.now left) c.place.ensures c.in_ok-guard-in-Test.ensures.left in
    let first = c.in_ok-take_first-in-Test.ensures in
    let one = subst (λ p. TakesFirst core p c.place-in-Test-2.result c.in_ok-guard-in-Test.guard left front after found) c.place-in-Test.ensures first in
    let two = subst (λ p. TakesFirst core c.in-Test.yes p c.in_ok-guard-in-Test.guard left front after found) c.place-in-Test-2.ensures one in
    let three = subst (λ g. TakesFirst core c.in-Test.yes c.in-Test.no g left front after found) c.in_ok-guard-in-Test.ensures.guard two in
    test_takes core c.args.waiting.now c.requires.others c.args.next c.in-Test.atom c.in-Test.yes c.in-Test.no front found left after (sym c.is_end.ensures ∙ c.if-is_end.false) at before.0 before.1.0 leaves three

pub returns-in_ok-push_alone-in-Do : goal.returns-in_ok-push_alone-in-Do
returns-in_ok-push_alone-in-Do c =
    let at : Stands c.args.core.now c.args.next.place (Do c.in-Do.change c.in-Do.next) = record { facts = c.kind.ensures.facts; there = c.kind.ensures.at.there ∙ ap Some c.in-Do.is } in
    alone_takes c.args.core.now c.args.waiting.now c.requires.others c.args.next c.args.found.now c.push_alone.new.found (sym c.is_end.ensures ∙ c.if-is_end.false)
    (do_upto c.args.core.now c.args.next.place c.in-Do.next c.in-Do.change c.args.next.end at) c.in_ok-push_alone-in-Do.ensures

pub returns-in_ok-push_alone-in-Stop : goal.returns-in_ok-push_alone-in-Stop
returns-in_ok-push_alone-in-Stop c =
    let at : Stands c.args.core.now c.args.next.place (Stop c.in-Stop.accept) = record { facts = c.kind.ensures.facts; there = c.kind.ensures.at.there ∙ ap Some c.in-Stop.is } in
    alone_takes c.args.core.now c.args.waiting.now c.requires.others c.args.next c.args.found.now c.push_alone-in-Stop.new.found (sym c.is_end.ensures ∙ c.if-is_end.false)
    (stop_upto c.args.core.now c.args.next.place c.in-Stop.accept c.args.next.end at) c.in_ok-push_alone-in-Stop.ensures
