use Rattle.std.proofs.Common.{rules, ◌∙◌, ap}
use Rattle.std.specs.List.{filter}
use Rattle.std.proofs.lemmas.Fn.{filter_same}
use Rattle.text_words.specs.declared.statement.Statement.{Statement}
use Rattle.text_words.specs.IosCut.{is_said}
use Rattle.text_words.proofs.ios_cut.said_of.Goals as goal

pub returns : goal.returns
returns c = c.from_vec.ensures ∙ (filter_same _ (λ (s : Statement). is_said s.words) _ (λ x b f' k. search rules) _ _ c.retain.ensures.filtered ∙ ap (filter (λ (s : Statement). is_said s.words)) c.into_vec-said.ensures)
