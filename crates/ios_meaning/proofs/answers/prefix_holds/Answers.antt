use Rattle.std.proofs.Common.{◌∙◌, ap}
use Rattle.std.specs.Prelude.{◌&&◌}
use Rattle.std.specs.List.{list_any}
use Rattle.route_types.specs.Address.{same_family}
use Rattle.route_types.specs.declared.address.Address.{Address}
use Rattle.route_types.specs.Address.{PrefixParts}
use Rattle.ios_meaning.specs.Answers.{permits_at}
use Rattle.ios_meaning.proofs.PrefixLists.{some_of_family}
use Rattle.ios_meaning.proofs.answers.prefix_holds.Goals as goal

pub returns : goal.returns
returns c =
    c.some_of_family.ensures
    ∙ ap (λ (a : Address). same_family c.args.line.now.family a.family && list_any (permits_at c.args.answers.now.prefix_lists) c.args.line.now.lists) (c.address-address.ensures ∙ ap (λ (p : PrefixParts). p.address) c.prefix.ensures)
    ∙ some_of_family c.args.answers.now.items.now c.args.answers.now.route.now.prefix c.args.answers.now.prefix_lists c.args.line.now.family c.args.line.now.lists c.requires.on_prefix
