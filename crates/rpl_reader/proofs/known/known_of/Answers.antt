use Rattle.std.proofs.Common.{ap, ◌∙◌}
use Rattle.policy_calls.specs.Callees.{links_of}
use Rattle.rpl_calls.specs.Said.{calls_in}
use Rattle.rpl_reader.proofs.KnownFacts.{is_known}
use Rattle.rpl_reader.proofs.known.known_of.Goals as goal

pub returns : goal.returns
returns c =
    is_known c.args.policy.now c.args.items.now (calls_in c.args.calls.now) c.args.arguments.now c.args.demands.now (links_of c.as_slice-by_name.result.now) c.in_ok-known.known c.in_ok-known.ensures c.requires.calls c.requires.arguments
    (ap links_of c.as_slice-by_name.ensures ∙ c.in_ok-row.ensures) c.requires.sound c.requires.whole
