use Rattle.std.proofs.Common.{◌∙◌, ◌-◌, ap, sym, subst, reverse, drop, length, arith}
use Rattle.std.proofs.lemmas.List.{length-reverse}
use Rattle.bit_diagrams.specs.Store.{AreNodes}
use Rattle.bit_diagrams.proofs.StoreLemmas.{reverse-take, AreNodes-take}
use Rattle.bit_diagrams.proofs.store.Diagrams.restore.Goals as goal

pub invariant_of-self : goal.invariant_of-self
invariant_of-self c =
    subst (λ l. AreNodes c.self.inside.places (reverse l)) (sym c.truncate.ensures.keys)
    (AreNodes-take c.self.inside.places c.args.count c.self.inside.nodes.keys c.self.invariant)

pub returns-clause-nodes : goal.returns-clause-nodes
returns-clause-nodes c =
    ap (λ l. reverse l) c.truncate.ensures.keys
    ∙ reverse-take c.args.count c.self.inside.nodes.keys
    (omega (
      arith,
      length-reverse c.self.inside.nodes.keys,
      ap (λ s. length s.nodes) c.self.view_is,
    ))
    ∙ ap (λ s. drop (length s.nodes - c.args.count) s.nodes) c.self.view_is
