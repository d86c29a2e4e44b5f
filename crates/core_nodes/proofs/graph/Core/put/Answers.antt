use Rattle.std.proofs.Common.{◌≡◌, ◌∙◌, ◌<◌, ap, sym, subst, reverse, length}
use Rattle.std.specs.List.{AllByRecursion}
use Rattle.core_nodes.specs.Nodes.{AreNodes, children}
use Rattle.core_nodes.specs.Made.{Keeps, IsMade}
use Rattle.core_nodes.proofs.Insert.{IsPut, nodes_insert, put_made, put_keeps}
use Rattle.core_nodes.proofs.graph.Core.put.Goals as goal

before : (c : goal.In_ok-index) → AllByRecursion (λ p. p < length (reverse c.self.inside.nodes.keys)) (children c.args.kind)
before c = subst (λ l. AllByRecursion (λ p. p < length l) (children c.args.kind)) (sym c.self.view_is) c.requires

pub invariant_of-self-2 : goal.invariant_of-self-2
invariant_of-self-2 c =
    subst (λ l. AreNodes (reverse l)) (sym c.in_ok-index.ensures.keys) (nodes_insert c.self.inside.nodes.keys c.args.kind c.self.invariant (before c))

pub returns-clause-made : goal.returns-clause-made
returns-clause-made c =
    let stored = c.in_ok-index.ensures.stored in
    let put : IsPut c.self.inside.nodes.keys c.insert_full.new.self.keys c.args.kind c.in_ok-index.index = record {
      facts = c.self.invariant;
      before = before c;
      keys = c.in_ok-index.ensures.keys;
      stored = stored.0;
      there = stored.1;
      same = stored.2;
    } in
    subst (λ l. IsMade l (reverse c.insert_full.new.self.keys) c.args.kind c.in_ok-index.index) c.self.view_is
    (put_made c.self.inside.nodes.keys c.insert_full.new.self.keys c.args.kind c.in_ok-index.index put)

pub returns-clause-keeps : goal.returns-clause-keeps
returns-clause-keeps c =
    subst (λ l. Keeps l (reverse c.insert_full.new.self.keys)) c.self.view_is
    (put_keeps c.self.inside.nodes.keys c.insert_full.new.self.keys c.args.kind c.in_ok-index.ensures.keys)
