use Rattle.std.proofs.Common.{◌∙◌, sym}
use Rattle.rpl_words.specs.Tokens.{tokens}
use Rattle.rpl_words.proofs.Phrases.{comma_none, comma_found, last_none, last_found}
use Rattle.rpl_words.proofs.phrase.commas.Goals as goal

pub returns-in_default-2 : goal.returns-in_default-2
returns-in_default-2 g c =
    comma_none g.R.ReadsWords.find c.loop-front.found (tokens c.loop-front.rest.now) (tokens c.in-Some.front.now) (tokens c.in-Some.tail.now) c.in-Some.ensures.value (sym c.in_default-2.is ∙ c.in_ok-value.ensures) ∙ c.loop-front.invariant

pub loop-front-preserved : goal.loop-front-preserved
loop-front-preserved g c =
    comma_found g.R.ReadsWords.find c.loop-front.found c.push.new.self c.in-Some-2.value (tokens c.loop-front.rest.now) (tokens c.in-Some.front.now) (tokens c.in-Some.tail.now) c.in_ok-push.ensures c.in-Some.ensures.value (sym c.in-Some-2.is ∙ c.in_ok-value.ensures)
    ∙ c.loop-front.invariant

pub returns-in_default-3 : goal.returns-in_default-3
returns-in_default-3 g c =
    last_none g.R.ReadsWords.find c.loop-front.found (tokens c.loop-front.rest.now) c.in_default.ensures.value (sym c.in_default-3.is ∙ c.in_ok-value-2.ensures) ∙ c.loop-front.invariant

pub returns : goal.returns
returns g c =
    last_found g.R.ReadsWords.find c.loop-front.found c.push-2.new.self c.in-Some-3.value (tokens c.loop-front.rest.now) c.in_ok-push-2.ensures c.in_default.ensures.value (sym c.in-Some-3.is ∙ c.in_ok-value-2.ensures) ∙ c.loop-front.invariant
