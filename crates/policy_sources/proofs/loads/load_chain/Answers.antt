-- a policy word has a name
use Rattle.policy_request.proofs.Chains.{some_names}
use Rattle.policy_sources.proofs.loads.load_chain.Goals as goal

pub load_junos-requires : goal.load_junos-requires
load_junos-requires c = some_names c.args.word.now c.as_slice.result.now c.in-Ok.names.items c.as_slice.ensures.value c.in-Ok.ensures
