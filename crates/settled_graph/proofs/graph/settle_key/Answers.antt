use Rattle.std.proofs.Common.{◌≡◌, ◌∙◌, ap, ◌∷◌, [], List}
use Rattle.settled_graph.specs.Keys.{IsKnown}
use Rattle.settled_graph.specs.Tasks.{planless}
use Rattle.settled_graph.specs.declared.tasks.Task.{Task}
use Rattle.settled_graph.proofs.TaskLaws.{none_known, root_ready, first_ready, root_done}
use Rattle.settled_graph.proofs.graph.settle_key.Goals as goal

pub loop-task-init : goal.loop-task-init
loop-task-init c = (
  record { settles = λ k n is. absurd (none_known c.new-memo.result k n c.new-memo.ensures.empty is) },
  root_ready c.args.core.now c.args.root c.in_ok-key.key (IsKnown c.new-memo.result) c.push.new.self c.requires c.in_ok-key.ensures
      (c.in_ok-push.ensures ∙ ap (λ (ts : List Task). planless c.in_ok-key.key ∷ ts) c.new-tasks.ensures),
)

pub take-requires-clause-task : goal.take-requires-clause-task
take-requires-clause-task c = first_ready c.args.core.now c.args.root (IsKnown c.loop-task.memo) c.in-Some.task c.loop-task.tasks c.pop.new.self c.in-Some.ensures.top c.loop-task.invariant.1

pub found-requires : goal.found-requires
found-requires c = root_done c.args.core.now c.args.root (IsKnown c.loop-task.memo) c.loop-task.tasks c.in_default.ensures.top c.loop-task.invariant.1

pub returns : goal.returns
returns c = c.loop-task.invariant.0.settles c.args.root c.found.result c.found.ensures
