use Rattle.policy_sources.proofs.LoadsOnce.{loads_alike, some_load}
use Rattle.policy_sources.proofs.laws.one_load.Goals as goal

pub returns : goal.returns
returns c = record { alike = λ taken source a b x y. loads_alike taken source.language source.names source.text a b x y; some = some_load }
