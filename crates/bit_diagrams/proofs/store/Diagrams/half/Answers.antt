use Rattle.std.proofs.Common.{arith}
use Rattle.bit_diagrams.proofs.ChoiceLemmas.{place-le_test, place-le_high, place-le_low}
use Rattle.bit_diagrams.proofs.store.Diagrams.half.Goals as goal

pub cofactor-requires-clause-first : goal.cofactor-requires-clause-first
cofactor-requires-clause-first c = omega
    (arith, c.requires.first, place-le_test c.args.self.now c.args.choice.now)

pub cofactor-requires-2-clause-first : goal.cofactor-requires-2-clause-first
cofactor-requires-2-clause-first c = omega
    (arith, c.requires.first, place-le_high c.args.self.now c.args.choice.now)

pub cofactor-requires-3-clause-first : goal.cofactor-requires-3-clause-first
cofactor-requires-3-clause-first c = omega
    (arith, c.requires.first, place-le_low c.args.self.now c.args.choice.now)
