use Rattle.junos_reader.proofs.LeastFault.{none_is, sound_is, first_is, only_is}
use Rattle.junos_reader.proofs.laws.first_fault_is_least.Goals as goal

pub returns : goal.returns
returns c = record { none = none_is; sound = sound_is; first = first_is; only = only_is }
