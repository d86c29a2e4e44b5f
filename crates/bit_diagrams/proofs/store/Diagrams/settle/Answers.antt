use Rattle.std.proofs.Common.{arith}
use Rattle.bit_diagrams.specs.Choice.{answer_in}
use Rattle.bit_diagrams.proofs.ChoiceLemmas.{choice_within}
use Rattle.bit_diagrams.proofs.WorkLemmas.{join_less}
use Rattle.bit_diagrams.proofs.StepLemmas.{choice_of-grows, grows_trans, less_descends, work_descends, work_joins, work_ends}
use Rattle.bit_diagrams.proofs.store.Diagrams.settle.Goals as goal

pub loop-half-smaller-in-Descend : goal.loop-half-smaller-in-Descend
loop-half-smaller-in-Descend c =
    less_descends c.args.self.now c.args.start c.loop-half.self (answer_in c.loop-half.memo)
    c.loop-half.waiting c.loop-half.current c.in-Descend.half
    c.loop-half.invariant c.in-Descend.ensures.facts c.in-Descend.ensures.step.1

pub loop-half-preserved-in-Descend : goal.loop-half-preserved-in-Descend
loop-half-preserved-in-Descend c =
    work_descends c.args.self.now c.args.start c.loop-half.self (answer_in c.loop-half.memo)
    c.loop-half.waiting c.loop-half.current c.in-Descend.half c.push.new.self
    c.loop-half.invariant c.in-Descend.ensures.step.0 c.in-Descend.ensures.step.1
    c.in_ok-push-in-Descend.ensures.ok

pub branch-self-requires-clause-within : goal.branch-self-requires-clause-within
branch-self-requires-clause-within c =
    let h = c.loop-half.invariant in
    omega (
      arith,
      c.in-Join.ensures.step.at,
      choice_within c.loop-half.self c.loop-half.current c.in-Join.ensures.facts
          (choice_of-grows c.args.self.now c.loop-half.self c.loop-half.current h.grows
          h.here.of_store).of_test h.here.tests,
    )

pub returns-in_err-remember-in-Join-clause-grows : goal.returns-in_err-remember-in-Join-clause-grows
returns-in_err-remember-in-Join-clause-grows c =
    grows_trans c.args.self.now c.loop-half.self c.branch-self.new.self c.loop-half.invariant.grows
    c.branch-self.ensures.grows

pub returns-in-None-clause-answer : goal.returns-in-None-clause-answer
returns-in-None-clause-answer c =
    work_ends c.args.self.now c.args.start c.loop-half.self c.branch-self.new.self
    (answer_in c.loop-half.memo) c.loop-half.waiting c.loop-half.current c.in-Join.node
    c.in_ok-id-in-Join.id
    c.loop-half.invariant c.in-Join.ensures.step c.branch-self.ensures.grows
    c.in_ok-id-in-Join.ensures.made c.in-None.ensures.0

pub returns-in-None-clause-grows : goal.returns-in-None-clause-grows
returns-in-None-clause-grows c =
    grows_trans c.args.self.now c.loop-half.self c.branch-self.new.self c.loop-half.invariant.grows
    c.branch-self.ensures.grows

pub loop-half-smaller : goal.loop-half-smaller
loop-half-smaller c =
    join_less c.args.self.now (answer_in c.loop-half.memo) (answer_in c.remember.new.memo)
    c.loop-half.current c.in-Some.parent c.in_ok-id-in-Join.id
    c.in_ok-remember-in-Join.ensures c.loop-half.invariant.here

pub loop-half-preserved : goal.loop-half-preserved
loop-half-preserved c =
    work_joins c.args.self.now c.args.start c.loop-half.self c.branch-self.new.self
    (answer_in c.loop-half.memo) (answer_in c.remember.new.memo)
    c.loop-half.waiting c.pop.new.self c.loop-half.current c.in-Some.parent c.in-Join.node
    c.in_ok-id-in-Join.id
    c.loop-half.invariant c.in-Join.ensures.step c.branch-self.ensures.grows
    c.in_ok-id-in-Join.ensures.made c.in_ok-remember-in-Join.ensures c.in-Some.ensures
