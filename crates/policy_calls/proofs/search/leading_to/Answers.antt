use Rattle.std.proofs.Common.{ap, ◌∙◌, List}
use Rattle.policy_calls.specs.Calls.{is_reached}
use Rattle.policy_calls.specs.Callees.{nows, links_of}
use Rattle.policy_calls.specs.declared.call.Call.{Call}
use Rattle.policy_calls.proofs.Closures.{reached_back}
use Rattle.policy_calls.proofs.search.leading_to.Goals as goal

pub returns : goal.returns
returns c = λ q.
    c.in_ok-set.ensures q
    ∙ ap (λ (cs : List Call). is_reached (links_of cs) (nows c.args.ends.now) q) (c.as_slice.ensures ∙ c.in_ok-back.ensures)
    ∙ reached_back c.args.calls.now (nows c.args.ends.now) q
