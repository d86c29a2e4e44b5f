use Rattle.step_search.proofs.Closed.{put}
use Rattle.step_search.proofs.found.add.Goals as goal

pub returns : goal.returns
returns g c = put g.K.PartialEq.eq g.met.K.Key.one c.args.key c.args.found.now.keys c.insert_full.new.self.keys c.in_ok-insert_full.ensures.keys
