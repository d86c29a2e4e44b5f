use Rattle.std.proofs.Common.{sym}
use Rattle.junos_reader.specs.Facts.{forms_of}
use Rattle.junos_meaning.proofs.RegionLaws.{push_action}
use Rattle.junos_meaning.proofs.regions.add_action.Goals as goal

pub returns-in_ok-push : goal.returns-in_ok-push
returns-in_ok-push c =
    push_action c.args.unnamed c.args.found.now.items c.push.new.self.items c.in-Some.action c.args.first.now.form (forms_of c.args.tail.now) c.in_ok-push.ensures.items c.requires (sym c.in-Some.ensures)
