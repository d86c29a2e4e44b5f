use Rattle.aspath_text.proofs.IosReadSpelled.{ios_pattern_found, found_shaped, none_spelled}
use Rattle.aspath_text.proofs.ios_read.read_ios_pattern.Goals as goal

pub new-requires : goal.new-requires
new-requires c = found_shaped c.args.text.now c.in-Ok.branches c.in-Ok.ensures

pub returns-in-Ok-clause-found : goal.returns-in-Ok-clause-found
returns-in-Ok-clause-found c = rw c.new.ensures (ios_pattern_found c.args.text.now c.in-Ok.branches c.in-Ok.ensures)

pub returns-in-Err-clause-refused : goal.returns-in-Err-clause-refused
returns-in-Err-clause-refused c = λ e. none_spelled c.args.text.now c.in-Err.fault c.in-Err.ensures (cc)
