use Rattle.std.proofs.Common.{refl, ap, ◌∙◌, List}
use Rattle.text_words.specs.LineCut.{end_of}
use Rattle.text_words.specs.declared.statement.Word.{Word}
use Rattle.rpl_forms.proofs.MarkSteps.{span_pushed}
use Rattle.rpl_forms.proofs.condition_words.push_span.Goals as goal

pub returns-clause-kept : goal.returns-clause-kept
returns-clause-kept c =
    span_pushed c.args.first.now c.args.tail.now c.args.count c.args.first.now.span.start c.end_of_words-end.result c.args.found.now c.push.new.self c.words_from.result.now c.requires.test c.requires.not_sign refl
    (c.end_of_words-end.ensures ∙ ap (λ (x : List Word). end_of c.args.first.now.span.end x) c.words_to.ensures) c.in_ok-push.ensures c.words_from.ensures.value
