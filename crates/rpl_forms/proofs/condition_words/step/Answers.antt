use Rattle.std.proofs.Common.{◌∙◌, ap, sym}
use Rattle.std.specs.Prelude.{option_map}
use Rattle.rpl_words.specs.Tokens.{tokens}
use Rattle.rpl_forms.proofs.MarkSteps.{step_none_words}
use Rattle.rpl_forms.proofs.condition_words.step.Goals as goal

pub returns-in-None-clause-kept : goal.returns-in-None-clause-kept
returns-in-None-clause-kept c =
    step_none_words c.args.words.now c.args.reading.now.terms c.args.reading.now.standing c.args.reading.now.around c.requires.some (ap (λ o. option_map (λ p. (p.0, tokens p.1.now)) o) (sym c.in-None.is) ∙ c.in_ok-mark_at.ensures.value)
