use Rattle.std.proofs.Common.{sym}
use Rattle.junos_reader.specs.Facts.{forms_of}
use Rattle.junos_meaning.proofs.MapLaws.{listed_ok}
use Rattle.junos_meaning.proofs.lists.add_list.Goals as goal

pub returns-in-Some : goal.returns-in-Some
returns-in-Some c =
    listed_ok c.args.prefix.now c.args.lists.now.entries c.put_first.new.self.entries c.in-Some.name.now c.answers_on.result c.args.first.now.form (forms_of c.args.tail.now) c.put_first.result (sym c.in-Some.ensures)
    c.answers_on.ensures c.put_first.ensures
