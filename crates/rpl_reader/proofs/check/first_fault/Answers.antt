use Rattle.std.proofs.Common.{◌≡◌, ap, ◌∙◌}
use Rattle.rpl_calls.specs.Arguments.{arguments_of}
use Rattle.rpl_calls.specs.Said.{asks_in, calls_in, settings_in}
use Rattle.rpl_reader.specs.Reach.{arguments_in}
use Rattle.rpl_reader.proofs.Demanded.{all_sound, all_whole}
use Rattle.rpl_reader.proofs.FirstFound.{known_is}
use Rattle.rpl_reader.proofs.check.first_fault.Goals as goal

pub known_of-requires-clause-calls : goal.known_of-requires-clause-calls
known_of-requires-clause-calls c = ap calls_in c.as_slice-calls.ensures ∙ c.in_ok-said.ensures.calls

pub known_of-requires-clause-arguments : goal.known_of-requires-clause-arguments
known_of-requires-clause-arguments c = c.in_ok-arguments.ensures ∙ ap arguments_of (ap calls_in c.as_slice-calls.ensures ∙ c.in_ok-said.ensures.calls)

pub known_of-requires-clause-sound : goal.known_of-requires-clause-sound
known_of-requires-clause-sound c =
    all_sound c.args.items.now c.in_ok-arguments.arguments (asks_in c.as_slice-asks.result.now) (c.in_ok-arguments.ensures ∙ ap arguments_of (ap calls_in c.as_slice-calls.ensures ∙ c.in_ok-said.ensures.calls))
    (ap asks_in c.as_slice-asks.ensures ∙ c.in_ok-said.ensures.asks) c.as_slice-asked.result.now c.in_ok-set.set.keys c.as_slice-asked.ensures.keys c.in_ok-set.ensures.sound

pub known_of-requires-clause-whole : goal.known_of-requires-clause-whole
known_of-requires-clause-whole c =
    all_whole c.args.items.now c.in_ok-arguments.arguments (asks_in c.as_slice-asks.result.now) (c.in_ok-arguments.ensures ∙ ap arguments_of (ap calls_in c.as_slice-calls.ensures ∙ c.in_ok-said.ensures.calls))
    (ap asks_in c.as_slice-asks.ensures ∙ c.in_ok-said.ensures.asks) c.as_slice-asked.result.now c.in_ok-set.set.keys c.as_slice-asked.ensures.keys c.in_ok-set.ensures.whole

pub returns : goal.returns
returns c =
    let args_are : c.in_ok-arguments.arguments ≡ arguments_in c.args.items.now = c.in_ok-arguments.ensures ∙ ap arguments_of (ap calls_in c.as_slice-calls.ensures ∙ c.in_ok-said.ensures.calls) in
    let asks_are = ap asks_in c.as_slice-asks.ensures ∙ c.in_ok-said.ensures.asks in
    known_is c.args.name.now c.args.items.now c.in_ok-known.known c.in_ok-known.ensures c.in_ok-arguments.arguments args_are
    (settings_in c.as_slice-settings.result.now) (ap settings_in c.as_slice-settings.ensures ∙ c.in_ok-said.ensures.settings) c.as_slice-asked.result.now
    (all_sound c.args.items.now c.in_ok-arguments.arguments (asks_in c.as_slice-asks.result.now) args_are asks_are c.as_slice-asked.result.now c.in_ok-set.set.keys c.as_slice-asked.ensures.keys c.in_ok-set.ensures.sound)
    (all_whole c.args.items.now c.in_ok-arguments.arguments (asks_in c.as_slice-asks.result.now) args_are asks_are c.as_slice-asked.result.now c.in_ok-set.set.keys c.as_slice-asked.ensures.keys c.in_ok-set.ensures.whole)
    c.in_ok-possible.possible c.in_ok-possible.ensures c.earliest_given-given.result c.earliest_setting-other.result c.in_ok-fault.fault c.earliest_given-given.ensures c.earliest_setting-other.ensures c.in_ok-fault.ensures
