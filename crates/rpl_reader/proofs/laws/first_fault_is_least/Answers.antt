use Rattle.rpl_reader.proofs.OneFirst.{least_is, one_is, sound_is}
use Rattle.rpl_reader.proofs.laws.first_fault_is_least.Goals as goal

pub returns : goal.returns
returns c = record { least = least_is; one = one_is; sound = sound_is }
