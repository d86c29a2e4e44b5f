use Rattle.name_maps.proofs.Put.{none_there, put_first_under}
use Rattle.std.proofs.Common.{sym, ◌∙◌}
use Rattle.name_maps.specs.Under.{under}
use Rattle.name_maps.proofs.map.NameMap.put_first.Goals as goal

pub returns : goal.returns
returns g c = put_first_under c.args.self.now.entries c.insert.new.self c.args.name.now c.args.value (none_there (under c.args.self.now.entries c.args.name.now) (sym c.contains_key.ensures ∙ c.if-contains_key.false)) c.in_ok-insert.ensures.updates
