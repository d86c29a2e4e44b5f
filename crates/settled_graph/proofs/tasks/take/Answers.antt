use Rattle.std.proofs.Common.{inl, inr, refl, sym, subst, List}
use Rattle.settled_graph.specs.Keys.{IsKnown}
use Rattle.settled_graph.specs.Tasks.{MayAllBeDone}
use Rattle.settled_graph.specs.declared.tasks.Task.{Task}
use Rattle.settled_graph.proofs.TaskLaws.{done_known, done_planned}
use Rattle.settled_graph.proofs.tasks.take.Goals as goal

pub returns-in_ok-plan_key-in-None-clause-tasks : goal.returns-in_ok-plan_key-in-None-clause-tasks
returns-in_ok-plan_key-in-None-clause-tasks c = λ root h.
    elim c.in_ok-plan_key-in-None.ensures [
      | inl found ↦
          subst (λ (ts : List Task). MayAllBeDone c.args.core.now root (IsKnown c.args.memo.now) ts) (sym found.1)
          (done_known c.args.core.now root c.args.memo.now c.args.memo.now c.args.task c.args.task.key c.args.tasks.now refl found.0 (λ q x. x) h)
      | inr planned ↦ done_planned c.args.core.now root (IsKnown c.args.memo.now) c.args.task c.args.task.key c.args.tasks.now c.plan_key.new.tasks refl planned h
    ]

pub returns-in_ok-make_node-in-Some-clause-tasks : goal.returns-in_ok-make_node-in-Some-clause-tasks
returns-in_ok-make_node-in-Some-clause-tasks c = λ root h.
    let noted = c.in_ok-make_node-in-Some.ensures.noted in
    done_known c.args.core.now root c.args.memo.now c.make_node.new.memo c.args.task c.args.task.key c.args.tasks.now refl noted.there noted.stays h
