use Rattle.std.proofs.Common.{◌∙◌, ◌-◌, ap, sym, subst, arith}
use Rattle.bit_diagrams.specs.Store.{IsStore, node_at}
use Rattle.bit_diagrams.proofs.NodeLemmas.{node_at-constant}
use Rattle.bit_diagrams.proofs.StoreLemmas.{node_at-reverse}
use Rattle.bit_diagrams.proofs.store.Diagrams.node.Goals as goal

pub returns-then-id-lt2-clause-node : goal.returns-then-id-lt2-clause-node
returns-then-id-lt2-clause-node c = sym (node_at-constant c.args.self.now.nodes c.args.id (omega arith))

pub returns-then-id-lt2-clause-facts : goal.returns-then-id-lt2-clause-facts
returns-then-id-lt2-clause-facts c = subst (λ s. IsStore s) c.self.view_is c.self.invariant

pub returns-clause-node : goal.returns-clause-node
returns-clause-node c =
    c.copied.ensures ∙ c.get_index.ensures.key
    ∙ sym (node_at-reverse c.self.inside.nodes.keys (c.id.inside.0 - 2) c.args.id (omega arith))
    ∙ ap (λ s. node_at s.nodes c.args.id) c.self.view_is

pub returns-clause-facts : goal.returns-clause-facts
returns-clause-facts c = subst (λ s. IsStore s) c.self.view_is c.self.invariant
