use Rattle.std.proofs.Common.{◌≡◌, arith}
use Rattle.std.proofs.lemmas.Bool.Decides.{nat_tests}
use Rattle.bit_diagrams.proofs.ChoiceLemmas.{answer_low, answer_high, answer_same, answer_test}
use Rattle.bit_diagrams.proofs.store.Diagrams.simple.Goals as goal
use Rattle.bit_diagrams.proofs.store.Diagrams.simple.Goals.{then-eq-2-via-then-eq-2, then-eq-2-via-else-eq-2+then-eq-3}

pub returns-then-eq : goal.returns-then-eq
returns-then-eq c =
    let is : c.args.choice.now.test ≡ 0 = grind (arith, nat_tests) in
    answer_low c.args.self.now c.args.choice.now c.requires is

pub returns-then-eq-2 : goal.returns-then-eq-2
returns-then-eq-2 c =
    elim c.then-eq-2.branch [
      | then-eq-2-via-then-eq-2 w ↦
          let is : c.args.choice.now.test ≡ 1 = grind (arith, nat_tests) in
          answer_high c.args.self.now c.args.choice.now c.requires is
      | then-eq-2-via-else-eq-2+then-eq-3 w ↦
          let is : c.args.choice.now.high ≡ c.args.choice.now.low = grind (arith, nat_tests) in
          answer_same c.args.self.now c.args.choice.now c.requires is
    ]

pub returns-then-eq-5 : goal.returns-then-eq-5
returns-then-eq-5 c =
    let high : c.args.choice.now.high ≡ 1 = grind (arith, nat_tests) in
    let low : c.args.choice.now.low ≡ 0 = grind (arith, nat_tests) in
    answer_test c.args.self.now c.args.choice.now c.requires high low
