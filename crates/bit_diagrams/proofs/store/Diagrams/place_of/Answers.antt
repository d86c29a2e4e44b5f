use Rattle.std.proofs.Common.{◌∙◌, ap, sym}
use Rattle.bit_diagrams.proofs.NodeLemmas.{place_of-node}
use Rattle.bit_diagrams.proofs.StoreLemmas.{place_of-none}
use Rattle.bit_diagrams.proofs.store.Diagrams.place_of.Goals as goal

pub returns-in-None-clause-place : goal.returns-in-None-clause-place
returns-in-None-clause-place c =
    ap (λ s. s.places) c.self.view_is
    ∙ sym (place_of-none c.args.self.now.places c.args.self.now.nodes c.args.id
    (sym c.in-None.ensures.node))

pub returns-in-Some-clause-place : goal.returns-in-Some-clause-place
returns-in-Some-clause-place c = sym
    (place_of-node c.args.self.now.places c.args.self.now.nodes c.args.id c.in-Some.node
    (sym c.in-Some.ensures.node))
