use Rattle.ios_readings.proofs.Agree.{in_profile_alike, checked_alike}
use Rattle.ios_readings.proofs.laws.both_readings_agree.Goals as goal

pub returns : goal.returns
returns c = record { in_profile = in_profile_alike; checked = checked_alike }
