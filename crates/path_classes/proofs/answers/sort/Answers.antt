use Rattle.std.proofs.Common.{arith}
use Rattle.path_classes.proofs.SortingLaws.{sorted_more}
use Rattle.path_classes.proofs.answers.sort.Goals as goal

pub loop-place-preserved : goal.loop-place-preserved
loop-place-preserved c = λ same.
    sorted_more c.args.count c.args.states.now c.loop-place.sorting c.add_state.new.self c.loop-place.place (omega (arith, c.len.ensures.len, c.loop-place-test.true)) same
    c.in_ok-add_state.ensures.put c.in_ok-add_state.ensures.distinct (c.loop-place.invariant same)
