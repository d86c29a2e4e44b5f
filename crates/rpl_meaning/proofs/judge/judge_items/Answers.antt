use Rattle.std.proofs.Common.{ap, ◌∙◌, List}
use Rattle.std.proofs.lemmas.Result.{IfOk-weaker}
use Rattle.rpl_meaning.specs.Blocks.{word_in}
use Rattle.rpl_meaning.specs.Meaning.{arriving, at_end}
use Rattle.rpl_meaning.specs.Runs.{fate_at}
use Rattle.rpl_meaning.specs.Walk.{Ending}
use Rattle.rpl_meaning.proofs.RunLaws.{no_words, whole_run}
use Rattle.rpl_meaning.proofs.judge.judge_items.Goals as goal

pub returns : goal.returns
returns c =
    IfOk-weaker c.outcome_of.result _ _
    (λ o ends.
    whole_run c.in_ok-world.world c.args.items.now c.args.route.now (word_in c.new-words.result.entries) c.args.name.now _ c.run_policy.new.known c.in_ok-found.found o c.in_ok-world.ensures.items c.in_ok-world.ensures.route
    (no_words c.new-words.result.entries c.new-words.ensures) c.in_ok-found.ensures
    (ends ∙ ap (λ (t : List Ending). at_end (fate_at t c.in_ok-found.found.place (arriving c.args.route.now))) c.as_slice.ensures.value))
    c.outcome_of.ensures
