use Rattle.junos_text.proofs.Definitions.{options_are_read, options_found}
use Rattle.junos_text.proofs.laws.written_options_are_read.Goals as goal

pub returns : goal.returns
returns c = record { reads = options_are_read; tree = options_found }
