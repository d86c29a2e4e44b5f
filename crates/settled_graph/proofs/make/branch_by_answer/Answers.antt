use Rattle.std.proofs.Common.{sym, subst}
use Rattle.resolved_tests.specs.declared.answer.Answer.{Answer}
use Rattle.settled_graph.specs.Plans.{Answers}
use Rattle.settled_graph.proofs.MakeLaws.{asked_answers}
use Rattle.settled_graph.proofs.make.branch_by_answer.Goals as goal

pub returns-in_ok-node-in-Asked : goal.returns-in_ok-node-in-Asked
returns-in_ok-node-in-Asked c =
    let made = c.in_ok-node-in-Asked.ensures in
    subst (λ (a : Answer). Answers c.args.core.now c.test.new.self a c.args.yes c.args.no c.in_ok-node-in-Asked.node) (sym c.in-Asked.is)
    (asked_answers c.args.core.now c.test.new.self c.in-Asked.atom c.args.yes c.args.no c.in_ok-node-in-Asked.node c.requires.of_yes c.requires.of_no made.keeps made.made)
