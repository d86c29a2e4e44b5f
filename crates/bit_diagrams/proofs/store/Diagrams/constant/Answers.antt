use Rattle.std.proofs.Common.{◌∙◌, sym, arith}
use Rattle.bit_diagrams.proofs.HoldsLemmas.{holds_on-false, holds_on-true}
use Rattle.bit_diagrams.proofs.store.Diagrams.constant.Goals as goal

pub returns-then-value-clause-made : goal.returns-then-value-clause-made
returns-then-value-clause-made c = record {
  of_store = omega arith;
  exact = λ bits full. holds_on-true c.args.self.now.nodes bits ∙ sym c.if-value.true;
}

pub returns-else-value-clause-made : goal.returns-else-value-clause-made
returns-else-value-clause-made c = record {
  of_store = omega arith;
  exact = λ bits full. holds_on-false c.args.self.now.nodes bits ∙ sym c.if-value.false;
}
