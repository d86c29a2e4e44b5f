use Rattle.std.proofs.Common.{◌≡◌, ◌∙◌, ◌<◌, ◌++◌, ◌∷◌, [], ap, sym, subst, None}
use Rattle.std.proofs.lemmas.List.{append-nil}
use Rattle.policy_core.specs.Waiting.{coming, AllMayWait, work}
use Rattle.policy_core.proofs.WaitingLaws.{waits, starts}
use Rattle.policy_core.proofs.listing.list_steps.Goals as goal

pub loop-next-init : goal.loop-next-init
unfolding AllMayWait
loop-next-init c =
    let pushed : c.push.new.self ≡ waits c.args.place None [] ∷ [] = c.in_ok-push.ensures ∙ (λ i. waits c.args.place None (c.new.ensures i) ∷ c.new-waiting.ensures i) in (
      ap (λ xs. xs ++ coming c.args.core.now c.push.new.self) c.new-found.ensures
          ∙ ap (λ ws. coming c.args.core.now ws) pushed
          ∙ starts c.args.core.now c.args.place,
      subst (λ ws. AllMayWait c.args.core.now ws) (sym pushed) (c.requires, tt),
    )

pub take-requires-clause-next : goal.take-requires-clause-next
unfolding AllMayWait
take-requires-clause-next c = (subst (λ ws. AllMayWait c.args.core.now ws) c.in-Some.ensures.top c.loop-next.invariant.1).0

pub take-requires-clause-others : goal.take-requires-clause-others
unfolding AllMayWait
take-requires-clause-others c = (subst (λ ws. AllMayWait c.args.core.now ws) c.in-Some.ensures.top c.loop-next.invariant.1).1

pub loop-next-smaller : goal.loop-next-smaller
unfolding work
loop-next-smaller c = subst (λ ws. work c.take.new.waiting < work ws) (sym c.in-Some.ensures.top) c.in_ok-take.ensures.less

pub loop-next-preserved : goal.loop-next-preserved
unfolding coming
loop-next-preserved c = (
  c.in_ok-take.ensures.steps
      ∙ ap (λ ws. c.loop-next.found ++ coming c.args.core.now ws) (sym c.in-Some.ensures.top)
      ∙ c.loop-next.invariant.0,
  c.in_ok-take.ensures.may,
)

pub returns : goal.returns
unfolding coming
returns c =
    sym (append-nil c.loop-next.found)
    ∙ ap (λ ws. c.loop-next.found ++ coming c.args.core.now ws) (sym c.in_default.ensures.top)
    ∙ c.loop-next.invariant.0
