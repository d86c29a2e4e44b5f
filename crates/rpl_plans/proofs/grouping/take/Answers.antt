use Rattle.std.proofs.Common.{◌∙◌, ◌++◌, ◌∷◌, [], ap, sym, subst, append_assoc, List}
use Rattle.rpl_plans.specs.Choices.{JoinsChoice, grouped_from}
use Rattle.rpl_plans.specs.declared.choice.Choice.{Choice}
use Rattle.rpl_plans.proofs.GroupingLaws.{met, unmet}
use Rattle.rpl_plans.proofs.grouping.take.Goals as goal

pub returns-then-done : goal.returns-then-done
returns-then-done c cs =
    let joins = subst (λ b. JoinsChoice c.args.current c.args.next.now b c.join_choice.new.first) c.if-done.true c.in_ok-done.ensures in
    ap (λ (xs : List Choice). c.args.found.now ++ xs) (sym (met c.args.current c.args.next.now c.join_choice.new.first joins cs))

pub returns : goal.returns
returns c cs =
    let joins = subst (λ b. JoinsChoice c.args.current c.args.next.now b c.join_choice.new.first) c.if-done.false c.in_ok-done.ensures in
    ap (λ (xs : List Choice). xs ++ grouped_from c.in_ok-following.following cs) c.in_ok-push.ensures
    ∙ ap (λ (k : Choice). (c.args.found.now ++ c.join_choice.new.first ∷ []) ++ grouped_from k cs) c.in_ok-following.ensures
    ∙ append_assoc c.args.found.now (c.join_choice.new.first ∷ []) (grouped_from c.args.next.now cs)
    ∙ ap (λ (xs : List Choice). c.args.found.now ++ xs) (sym (unmet c.args.current c.args.next.now c.join_choice.new.first joins cs))
