use Rattle.std.proofs.Common.{◌∙◌, ◌<◌, ◌∷◌, [], refl, ap, sym, subst, map, arith, Some}
use Rattle.std.specs.List.{AllByRecursion}
use Rattle.core_nodes.specs.Nodes.{children}
use Rattle.core_nodes.specs.declared.node.NodeKind.TheVariants.{Test, Do, Stop}
use Rattle.policy_core.specs.Settled.{IsUntested}
use Rattle.policy_core.proofs.FoldLaws.{Stands}
use Rattle.policy_core.proofs.SettledLaws.{no_test, untested_next}
use Rattle.policy_core.proofs.ListedLaws.{doing, doing_none, alone_at, alone_do, alone_stop, ending, guarded_one}
use Rattle.policy_core.proofs.listing.one_step.Goals as goal

pub loop-change-init : goal.loop-change-init
loop-change-init c =
    (c.requires.within, c.requires.untested, ap (λ cs. map (doing cs) (alone_at c.args.core.now c.args.place)) c.new-actions.ensures ∙ doing_none (alone_at c.args.core.now c.args.place), refl)

pub unreachable-requires : goal.unreachable-requires
unreachable-requires c =
    let at : Stands c.args.core.now c.loop-change.at (Test c.in-Test.atom c.in-Test.yes c.in-Test.no) = record { facts = c.kind.ensures.facts; there = c.kind.ensures.at.there ∙ ap Some c.in-Test.is } in
    no_test c.args.core.now c.loop-change.at c.in-Test.yes c.in-Test.no c.in-Test.atom at c.loop-change.invariant.1

pub loop-change-preserved : goal.loop-change-preserved
loop-change-preserved c =
    let at : Stands c.args.core.now c.loop-change.at (Do c.in-Do.change c.in-Do.next) = record { facts = c.kind.ensures.facts; there = c.kind.ensures.at.there ∙ ap Some c.in-Do.is } in
    let before = subst (λ k. AllByRecursion (λ child. child < c.loop-change.at) (children k)) c.in-Do.is c.kind.ensures.at.before in
    let inv = c.loop-change.invariant in (
      omega (arith, c.place-at.ensures, before.0, inv.0),
      subst (λ p. IsUntested c.args.core.now p) (sym c.place-at.ensures) (untested_next c.args.core.now c.loop-change.at c.in-Do.next c.in-Do.change at inv.1),
      (λ i. map (doing (c.in_ok-push_copy-in-Do.ensures i)) (alone_at c.args.core.now (c.place-at.ensures i)))
          ∙ alone_do c.args.core.now c.loop-change.at c.in-Do.next c.in-Do.change c.loop-change.actions at
          ∙ inv.2,
      inv.3,
    )

pub returns-in-Stop : goal.returns-in-Stop
returns-in-Stop c =
    let at : Stands c.args.core.now c.loop-change.at (Stop c.in-Stop.accept) = record { facts = c.kind.ensures.facts; there = c.kind.ensures.at.there ∙ ap Some c.in-Stop.is } in
    let inv = c.loop-change.invariant in
    let one = alone_stop c.args.core.now c.loop-change.at c.in-Stop.accept c.loop-change.actions at in
    guarded_one c.args.guard c.loop-change.actions c.in-Stop.accept (alone_at c.args.core.now c.args.place) (sym inv.2 ∙ one)
    ∙ ap (λ g. ending g c.loop-change.actions c.in-Stop.accept ∷ []) (sym inv.3)
