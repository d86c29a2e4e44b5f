use Rattle.std.proofs.Common.{◌≡◌, ◌∙◌, Some, ap, sym, subst, reverse}
use Rattle.std.specs.Option.{option_copied}
use Rattle.core_nodes.specs.Nodes.{kind_at}
use Rattle.core_nodes.specs.Made.{IsAt}
use Rattle.core_nodes.proofs.Insert.{kind_reverse}
use Rattle.core_nodes.proofs.Places.{is_at}
use Rattle.core_nodes.proofs.graph.Core.kind.Goals as goal

pub returns-clause-at : goal.returns-clause-at
returns-clause-at c =
    let keys = c.self.inside.nodes.keys in
    let found : kind_at (reverse keys) c.args.place ≡ Some c.unwrap.result.now =
    kind_reverse keys c.args.place ∙ sym c.get_index.ensures.key ∙ ap option_copied c.unwrap.ensures in
    subst (λ l. IsAt l c.args.place c.unwrap.result.now) c.self.view_is (is_at (reverse keys) c.args.place c.unwrap.result.now c.self.invariant found)
