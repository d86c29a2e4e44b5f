use Rattle.ios_readings.proofs.AtOnce.{means_at_once, goes_on_in_profile}
use Rattle.ios_readings.proofs.laws.changes_at_once.Goals as goal

pub returns : goal.returns
returns c = record { in_profile = means_at_once; goes_on = goes_on_in_profile }
