use Rattle.expressible_table.proofs.Noted.{short_same}
use Rattle.std.proofs.Common.{◌∙◌}
use Rattle.route_types.specs.Address.{width}
use Rattle.expressible_table.proofs.lists.short_lists.Goals as goal

pub returns : goal.returns
returns c asked family list = c.in_ok-names.ensures list (width family) 0 ∙ short_same family list c.args.items.now
