use Rattle.std.proofs.Common.{sym}
use Rattle.aspath_text.proofs.JunosCut.{members_parted, parts_shorter}
use Rattle.aspath_text.proofs.junos_read.next_member.Goals as goal

pub returns-clause-parted : goal.returns-clause-parted
returns-clause-parted c = members_parted c.args.text.now (c.in_ok-front.front.now, c.in_ok-front.behind.now) (sym c.in_ok-front.ensures)

pub returns-clause-shorter : goal.returns-clause-shorter
returns-clause-shorter c = parts_shorter 124 c.args.text.now (c.in_ok-front.front.now, c.in_ok-front.behind.now) (sym c.in_ok-front.ensures)
