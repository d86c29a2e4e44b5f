use Rattle.std.proofs.Common.{sym, ◌∙◌}
use Rattle.rpl_meaning.proofs.BlockLaws.{added, passed, on_ok, in_front}
use Rattle.rpl_meaning.proofs.blocks.add_block.Goals as goal

pub returns-in-Some : goal.returns-in-Some
returns-in-Some g c =
    on_ok c.put_first.result _ _
    (λ put q.
    added g.S.BlockSort.named c.args.blocks.now.entries c.put_first.new.self.entries c.in-Some.name.now q c.args.rest c.args.first.now c.args.tail.now c.requires (sym c.in-Some.ensures) (put q)
    ∙ in_front g.S.BlockSort.named c.args.blocks.now.entries q c.args.rest.now c.args.first.now c.args.tail.now c.requires)
    c.put_first.ensures

pub returns-in-None : goal.returns-in-None
returns-in-None g c = λ q.
    passed g.S.BlockSort.named c.args.blocks.now.entries q c.args.first.now c.args.tail.now (sym c.in-None.ensures)
    ∙ in_front g.S.BlockSort.named c.args.blocks.now.entries q c.args.rest.now c.args.first.now c.args.tail.now c.requires
