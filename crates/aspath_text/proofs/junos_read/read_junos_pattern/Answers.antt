use Rattle.std.proofs.Common.{subst}
use Rattle.aspath_text.specs.JunosRead.{junos_pattern_in}
use Rattle.aspath_text.specs.Printing.{Reads}
use Rattle.aspath_text.proofs.JunosRead.{junos_pattern_refused}
use Rattle.aspath_text.proofs.junos_read.read_junos_pattern.Goals as goal

pub returns-clause-refused : goal.returns-clause-refused
returns-clause-refused c e p h = junos_pattern_refused c.args.text.now (subst (Reads (junos_pattern_in c.args.text.now)) e c.pattern.ensures) p h
