use Rattle.std.proofs.Common.{false, slice_index_or, arith}
use Rattle.bit_diagrams.specs.Meaning.{Stands}
use Rattle.bit_diagrams.specs.Choice.{IsBranch}
use Rattle.bit_diagrams.proofs.NodeLemmas.{place_of-constant}
use Rattle.bit_diagrams.proofs.StoreLemmas.{keeps_grows}
use Rattle.bit_diagrams.proofs.CallLemmas.{IfOk-map, bit_stands}
use Rattle.bit_diagrams.proofs.store.Diagrams.bit.Goals as goal

pub branch-self-requires-clause-low_rises : goal.branch-self-requires-clause-low_rises
branch-self-requires-clause-low_rises c = omega (
  arith,
  c.requires,
  place_of-constant c.args.self.now.places c.args.self.now.nodes 0
      (omega arith),
)

pub branch-self-requires-clause-high_rises : goal.branch-self-requires-clause-high_rises
branch-self-requires-clause-high_rises c = omega (
  arith,
  c.requires,
  place_of-constant c.args.self.now.places c.args.self.now.nodes 1
      (omega arith),
)

pub returns-clause-made : goal.returns-clause-made
returns-clause-made c =
    IfOk-map (IsBranch c.branch-self.new.self (record { place = c.args.place; low = 0; high = 1 }))
    (λ id. Stands c.branch-self.new.self id (λ bits. slice_index_or bits c.args.place false))
    c.branch-self.result
    (λ id h. bit_stands c.branch-self.new.self c.args.place id h) c.branch-self.ensures.made

pub returns-clause-keeps : goal.returns-clause-keeps
returns-clause-keeps c = keeps_grows c.args.self.now c.branch-self.new.self c.branch-self.ensures.grows
