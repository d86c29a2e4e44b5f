use Rattle.std.proofs.Common.{◌≡◌, ◌∙◌, ap, arith}
use Rattle.std.proofs.lemmas.Bool.Decides.{nat_tests}
use Rattle.bit_diagrams.specs.Meaning.{holds}
use Rattle.bit_diagrams.proofs.HoldsLemmas.{holds_on-false}
use Rattle.bit_diagrams.proofs.store.Diagrams.find.Goals as goal

pub returns-then-eq : goal.returns-then-eq
returns-then-eq c =
    let is : c.args.id ≡ 0 = grind (arith, nat_tests) in (
      is,
      λ bits full. ap (λ i. holds c.args.self.now i bits) is
          ∙ holds_on-false c.args.self.now.nodes bits,
    )
