use Rattle.std.proofs.Common.{◌≡◌, ◌<◌, ◌∙◌, None, length, ap, sym, subst, arith}
use Rattle.bit_diagrams.specs.Store.{ids, node_at}
use Rattle.bit_diagrams.specs.Meaning.{child_on, holds_on}
use Rattle.bit_diagrams.proofs.NodeLemmas.{node_facts}
use Rattle.bit_diagrams.proofs.HoldsLemmas.{at_child, holds_on-node}
use Rattle.bit_diagrams.proofs.StoreLemmas.{holds_on-end}
use Rattle.bit_diagrams.proofs.store.Diagrams.holds.Goals as goal

pub child-at-requires : goal.child-at-requires
child-at-requires c =
    let s = c.args.self.now in
    let h =
    node_facts s.places s.nodes c.loop-node.at c.in-Some.node c.in-Some.ensures.facts
    (sym c.in-Some.ensures.node) in
    omega (arith, h.within, c.requires.full, ap (λ l. length l) c.loop-node.invariant.1)

pub loop-node-smaller : goal.loop-node-smaller
loop-node-smaller c =
    let s = c.args.self.now in
    let h =
    node_facts s.places s.nodes c.loop-node.at c.in-Some.node c.in-Some.ensures.facts
    (sym c.in-Some.ensures.node) in
    subst (λ i. i < c.loop-node.at) (sym c.child-at.ensures)
    (at_child (λ i. i < c.loop-node.at) c.in-Some.node c.as_slice-values.result.now h.low_before
    h.high_before)

pub loop-node-preserved : goal.loop-node-preserved
loop-node-preserved c =
    let s = c.args.self.now in
    let n = c.in-Some.node in
    let is = sym c.in-Some.ensures.node in
    let h = node_facts s.places s.nodes c.loop-node.at n c.in-Some.ensures.facts is in
    let next : c.child-at.result ≡ child_on n c.args.bits.now =
    c.child-at.ensures ∙ ap (λ l. child_on n l) c.loop-node.invariant.1 in (
      subst (λ i. i < ids s.nodes) (sym next)
          (at_child (λ i. i < ids s.nodes) n c.args.bits.now (omega (arith, h.low_before, h.below))
          (omega (arith, h.high_before, h.below))),
      c.loop-node.invariant.1,
      ap (λ i. holds_on s.nodes i c.args.bits.now) next
          ∙ sym (holds_on-node s.places s.nodes c.loop-node.at n c.args.bits.now
          c.in-Some.ensures.facts is)
          ∙ c.loop-node.invariant.2,
    )

pub returns : goal.returns
returns c =
    let s = c.args.self.now in
    let none : node_at s.nodes c.loop-node.at ≡ None = sym c.node.ensures.node ∙ c.in_default.is in
    c.eq.ensures ∙ sym (holds_on-end s.nodes c.loop-node.at c.args.bits.now none
    c.loop-node.invariant.0) ∙ c.loop-node.invariant.2
