use Rattle.name_maps.proofs.Put.{put_under}
use Rattle.name_maps.proofs.map.NameMap.put.Goals as goal

pub returns : goal.returns
returns g c = put_under c.args.self.now.entries c.insert.new.self c.args.name.now c.args.value c.in_ok-insert.ensures.updates
