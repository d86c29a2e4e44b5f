use Rattle.std.proofs.Common.{sym}
use Rattle.junos_meaning.proofs.MapLaws.{added_ok}
use Rattle.junos_meaning.proofs.blocks.add_block.Goals as goal

pub returns-in-Some : goal.returns-in-Some
returns-in-Some g c =
    added_ok g.S.BlockSort.named c.args.blocks.now.entries c.put_first.new.self.entries c.in-Some.name.now c.args.rest c.args.first.now c.args.tail.now c.put_first.result c.requires (sym c.in-Some.ensures)
    c.put_first.ensures
