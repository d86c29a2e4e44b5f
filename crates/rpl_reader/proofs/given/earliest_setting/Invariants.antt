use Rattle.std.proofs.Common.{◌≡◌, length}
use Rattle.rpl_calls.specs.Said.{settings_in}
use Rattle.rpl_reader.specs.Possible.{known_may}
use Rattle.rpl_reader.specs.Faults.{setting_fault, earliest_of}
use Rattle.rpl_reader.proofs.given.earliest_setting.Given as goal

abbrev pub invariant-loop-rest : goal.invariant-loop-rest
invariant-loop-rest l = earliest_of (setting_fault (known_may l.possible)) l.found (settings_in l.rest) ≡ earliest_of (setting_fault (known_may l.possible)) l.fn.other (settings_in l.settings)

abbrev pub decreases-loop-rest : goal.decreases-loop-rest
decreases-loop-rest l = length l.rest
