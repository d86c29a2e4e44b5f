use Rattle.std.proofs.Common.{sym}
use Rattle.aspath_text.proofs.JunosCut.{parts_shorter}
use Rattle.junos_tree.proofs.Spaces.{space_parts}
use Rattle.junos_tree.proofs.words.next_space.Goals as goal

pub returns-clause-parted : goal.returns-clause-parted
returns-clause-parted c = space_parts c.args.text.now (c.in_ok-front.front.now, c.in_ok-front.behind.now) (sym c.in_ok-front.ensures)

pub returns-clause-shorter : goal.returns-clause-shorter
returns-clause-shorter c = parts_shorter 32 c.args.text.now (c.in_ok-front.front.now, c.in_ok-front.behind.now) (sym c.in_ok-front.ensures)
