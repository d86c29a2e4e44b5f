use Rattle.std.proofs.Common.{◌≡◌, ◌∙◌, None, if◌then◌else◌, sym, subst, arith}
use Rattle.bit_diagrams.specs.Store.{node_at}
use Rattle.bit_diagrams.specs.Choice.{IsCofactor}
use Rattle.bit_diagrams.proofs.NodeLemmas.{place_of-node}
use Rattle.bit_diagrams.proofs.StoreLemmas.{place_of-none}
use Rattle.bit_diagrams.proofs.ChoiceLemmas.{cofactor_self, cofactor_child}
use Rattle.bit_diagrams.proofs.store.Diagrams.cofactor.Goals as goal

pub returns-in_default : goal.returns-in_default
returns-in_default c =
    let s = c.args.self.now in
    let none : node_at s.nodes c.args.id ≡ None = sym c.node.ensures.node ∙ c.in_default.is in
    cofactor_self s c.args.id c.args.place c.args.value
    (omega (arith, place_of-none s.places s.nodes c.args.id none, c.requires.within))

pub returns-then-node-place : goal.returns-then-node-place
returns-then-node-place c =
    let s = c.args.self.now in
    cofactor_self s c.args.id c.args.place c.args.value
    (omega (
      arith,
      place_of-node s.places s.nodes c.args.id c.in-Some.node
          (sym c.in-Some.ensures.node),
      c.requires.first,
      c.if-node-place.true,
    ))

pub returns : goal.returns
returns c =
    let s = c.args.self.now in
    let n = c.in-Some.node in
    let at : n.place ≡ c.args.place = omega (arith, c.if-node-place.false) in
    subst (λ i. IsCofactor s c.args.id c.args.place c.args.value i) (sym c.way.ensures)
    (subst (λ p. IsCofactor s c.args.id p c.args.value (if c.args.value then n.high else n.low)) at
    (cofactor_child s c.args.id n c.args.value c.in-Some.ensures.facts (sym c.in-Some.ensures.node)))
