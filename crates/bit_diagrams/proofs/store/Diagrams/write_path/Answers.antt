use Rattle.std.proofs.Common.{◌≡◌, ◌<◌, ◌∙◌, ◌==◌, not, set, None, length, ap, sym, subst, arith, length-set}
use Rattle.bit_diagrams.specs.Store.{node_at}
use Rattle.bit_diagrams.specs.Meaning.{child_on}
use Rattle.bit_diagrams.proofs.NodeLemmas.{node_facts}
use Rattle.bit_diagrams.proofs.FindLemmas.{IsOnWay, way_steps, way_ends, child_less}
use Rattle.bit_diagrams.proofs.store.Diagrams.write_path.Goals as goal

pub write_way-requires : goal.write_way-requires
write_way-requires c =
    let s = c.args.self.now in
    let h =
    node_facts s.places s.nodes c.loop-node.at c.in-Some.node c.in-Some.ensures.facts
    (sym c.in-Some.ensures.node) in
    omega (arith, h.within, c.loop-node.invariant.1)

pub child-at-requires : goal.child-at-requires
child-at-requires c =
    let s = c.args.self.now in
    let h =
    node_facts s.places s.nodes c.loop-node.at c.in-Some.node c.in-Some.ensures.facts
    (sym c.in-Some.ensures.node) in
    omega (arith, h.within, c.loop-node.invariant.1, c.write_way.auto.values)

pub loop-node-smaller : goal.loop-node-smaller
loop-node-smaller c =
    subst (λ i. i < c.loop-node.at) (sym c.child-at.ensures)
    (child_less c.args.self.now c.loop-node.at c.in-Some.node c.write_way.new.values
    c.in-Some.ensures.facts (sym c.in-Some.ensures.node))

pub loop-node-preserved : goal.loop-node-preserved
loop-node-preserved c =
    let s = c.args.self.now in
    let n = c.in-Some.node in
    let written = set c.loop-node.values n.place (not (n.high == 0)) in
    let step : IsOnWay s c.args.id (child_on n written) written =
    way_steps s c.args.id c.loop-node.at n c.loop-node.values c.in-Some.ensures.facts
    (sym c.in-Some.ensures.node) c.loop-node.invariant.1 c.loop-node.invariant.0 in
    let at_new : IsOnWay s c.args.id (child_on n c.write_way.new.values) c.write_way.new.values =
    subst (λ l. IsOnWay s c.args.id (child_on n l) l) (sym c.write_way.ensures) step in (
      subst (λ i. IsOnWay s c.args.id i c.write_way.new.values) (sym c.child-at.ensures) at_new,
      ap (λ l. length l) c.write_way.ensures
          ∙ length-set c.loop-node.values n.place (not (n.high == 0)) ∙ c.loop-node.invariant.1,
    )

pub returns : goal.returns
returns c =
    let s = c.args.self.now in
    let none : node_at s.nodes c.loop-node.at ≡ None = sym c.node.ensures.node ∙ c.in_default.is in
    way_ends s c.args.id c.loop-node.at c.loop-node.values none c.loop-node.invariant.0
