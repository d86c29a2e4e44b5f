use Rattle.std.proofs.Common.{◌≡◌, sym, subst}
use Rattle.std.specs.Prelude.{IfOk}
use Rattle.rpl_forms.specs.declared.item.Action.{Action}
use Rattle.rpl_tree.specs.Tree.{forms}
use Rattle.rpl_meaning.specs.Blocks.{word_in}
use Rattle.rpl_meaning.specs.Meaning.{acted}
use Rattle.rpl_meaning.specs.Walk.{Start, route_at}
use Rattle.rpl_meaning.proofs.actions.acted.Goals as goal

pub returns-in-SetCommunity : goal.returns-in-SetCommunity
returns-in-SetCommunity c =
    subst (λ (a : Action). IfOk c.with_set.result (λ d. (p : Start) → route_at p d ≡ acted (forms c.args.world.now.items.now) (word_in c.args.words.now.entries) a (route_at p c.args.changes))) (sym c.in-SetCommunity.is) c.with_set.ensures

pub returns-in-DeleteCommunity : goal.returns-in-DeleteCommunity
returns-in-DeleteCommunity c =
    subst (λ (a : Action). IfOk c.without.result (λ d. (p : Start) → route_at p d ≡ acted (forms c.args.world.now.items.now) (word_in c.args.words.now.entries) a (route_at p c.args.changes))) (sym c.in-DeleteCommunity.is) c.without.ensures

pub returns-in-Prepend : goal.returns-in-Prepend
returns-in-Prepend c =
    subst (λ (a : Action). IfOk c.with_prepended.result (λ d. (p : Start) → route_at p d ≡ acted (forms c.args.world.now.items.now) (word_in c.args.words.now.entries) a (route_at p c.args.changes))) (sym c.in-Prepend.is) c.with_prepended.ensures
