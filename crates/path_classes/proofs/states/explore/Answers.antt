use Rattle.std.proofs.Common.{arith}
use Rattle.path_classes.proofs.states.explore.Goals as goal

pub loop-place-preserved : goal.loop-place-preserved
loop-place-preserved c = λ sound. c.in_ok-add_row.ensures sound (c.loop-place.invariant sound) (omega (arith, c.len.ensures.len, c.loop-place-test.true))

pub returns : goal.returns
returns c = λ sound. record {
  place = c.loop-place.place;
  all = omega (arith, c.len.ensures.len, c.loop-place-test.false);
  explored = c.loop-place.invariant sound;
}
