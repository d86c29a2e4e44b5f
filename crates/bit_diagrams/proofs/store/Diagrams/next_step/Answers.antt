use Rattle.std.proofs.Common.{MatchOption, subst, arith}
use Rattle.bit_diagrams.specs.Choice.{IsOpen, IsAnswer, answer_in}
use Rattle.bit_diagrams.proofs.ChoiceLemmas.{choice_within, deeper_half, node_for}
use Rattle.bit_diagrams.proofs.store.Diagrams.next_step.Goals as goal

pub half-low_half-requires-clause-within : goal.half-low_half-requires-clause-within
half-low_half-requires-clause-within c =
    omega (
      arith,
      c.choice_place-place.ensures.place,
      choice_within c.args.self.now c.args.choice.now c.choice_place-place.ensures.facts
          c.requires.choice_is_open.of_store.of_test c.requires.choice_is_open.tests,
    )

pub half-high_half-requires-clause-within : goal.half-high_half-requires-clause-within
half-high_half-requires-clause-within c =
    omega (
      arith,
      c.choice_place-place.ensures.place,
      choice_within c.args.self.now c.args.choice.now c.choice_place-place.ensures.facts
          c.requires.choice_is_open.of_store.of_test c.requires.choice_is_open.tests,
    )

pub returns-in_default-clause-step : goal.returns-in_default-clause-step
returns-in_default-clause-step c = (
  subst (λ r. MatchOption r
      (IsOpen c.args.self.now (answer_in c.args.memo.now) c.half-low_half.result)
      (IsAnswer c.args.self.now c.half-low_half.result)) c.in_default.is c.known.ensures,
  deeper_half c.args.self.now c.args.choice.now c.choice_place-place.result _ c.half-low_half.result
      c.choice_place-place.ensures.place c.half-low_half.ensures,
)

pub returns-in_default-known-clause-step : goal.returns-in_default-known-clause-step
returns-in_default-known-clause-step c = (
  subst (λ r. MatchOption r
      (IsOpen c.args.self.now (answer_in c.args.memo.now) c.half-high_half.result)
      (IsAnswer c.args.self.now c.half-high_half.result)) c.in_default-known.is c.known-2.ensures,
  deeper_half c.args.self.now c.args.choice.now c.choice_place-place.result _
      c.half-high_half.result c.choice_place-place.ensures.place c.half-high_half.ensures,
)

pub returns-clause-step : goal.returns-clause-step
returns-clause-step c =
    node_for c.args.self.now c.args.choice.now c.half-low_half.result c.half-high_half.result
    c.choice_place-place.result c.in-Some.low c.in-Some-known.high
    c.choice_place-place.ensures.place c.half-low_half.ensures c.half-high_half.ensures
    c.in-Some.ensures c.in-Some-known.ensures
