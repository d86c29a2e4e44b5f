use Rattle.aspath_text.proofs.JunosRead.{junos_pattern_only}
use Rattle.aspath_text.proofs.laws.junos_patterns.Goals as goal

pub returns-clause-only : goal.returns-clause-only
returns-clause-only c text p h = junos_pattern_only text p h
