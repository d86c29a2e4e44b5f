use Rattle.ios_lower.proofs.NamedLaws.{added, pushed}
use Rattle.ios_lower.proofs.named.add.Goals as goal

pub returns : goal.returns
returns g c =
    added c.args.lists.now c.taken-values.new.lists c.insert.new.self c.args.name.now c.args.value c.push.new.self c.taken-values.ensures.others
    (pushed c.taken-values.result.items c.push.new.self.items _ c.args.value c.in_ok-push.ensures.items c.taken-values.ensures.taken) c.in_ok-insert.ensures.updates
