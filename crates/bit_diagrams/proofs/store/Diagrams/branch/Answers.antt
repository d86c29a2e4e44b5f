use Rattle.std.proofs.Common.{◌≡◌, ◌+◌, ◌++◌, ◌∙◌, Some, ap, sym, subst, reverse, refl, arith}
use Rattle.std.proofs.lemmas.Bool.Decides.{nat_tests}
use Rattle.bit_diagrams.specs.Store.{AreNodes, node_at}
use Rattle.bit_diagrams.proofs.StoreLemmas.{IsReady, AreNodes-insert, grows_insert, branch_at, equal_nodes-true, node_at-reverse}
use Rattle.bit_diagrams.proofs.store.Diagrams.branch.Goals as goal

ready : (c : goal.In_ok-index)
    → IsReady c.self.inside.places (reverse c.self.inside.nodes.keys) c.args.node
ready c =
    subst (λ s. IsReady s.places s.nodes c.args.node) (sym c.self.view_is)
    (record {
      within = c.requires.within;
      low_before = c.requires.of_low;
      high_before = c.requires.of_high;
      low_rises = c.requires.low_rises;
      high_rises = c.requires.high_rises;
      differ = λ e. grind (arith, nat_tests);
    })

kept : (c : goal.In_ok-index) → AreNodes c.self.inside.places (reverse c.insert_full.new.self.keys)
kept c =
    subst (λ l. AreNodes c.self.inside.places (reverse l)) (sym c.in_ok-index.ensures.keys)
    (AreNodes-insert c.self.inside.places c.self.inside.nodes.keys c.args.node c.self.invariant
    (ready c))

pub invariant_of-self-2 : goal.invariant_of-self-2
invariant_of-self-2 c = kept c

pub returns-clause-made : goal.returns-clause-made
returns-clause-made c =
    let stored = c.in_ok-index.ensures.stored in
    let at : node_at (reverse c.insert_full.new.self.keys) (c.in_ok-index.index + 2) ≡ Some c.args.node =
    node_at-reverse c.insert_full.new.self.keys c.in_ok-index.index (c.in_ok-index.index + 2) refl
    ∙ stored.1 ∙ ap (λ n. Some n) (sym (equal_nodes-true c.args.node stored.0 stored.2)) in
    branch_at _ c.args.node (c.in_ok-index.index + 2) (kept c) at

pub returns-clause-grows : goal.returns-clause-grows
returns-clause-grows c =
    let g = grows_insert c.self.inside.nodes.keys c.args.node in
    record {
      places = ap (λ s. s.places) c.self.view_is;
      nodes = (
        g.0,
        ap (λ l. reverse l) c.in_ok-index.ensures.keys ∙ g.1
            ∙ ap (λ s. g.0 ++ s.nodes) c.self.view_is,
      );
    }
