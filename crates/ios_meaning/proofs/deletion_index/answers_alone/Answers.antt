use Rattle.std.proofs.Common.{sym, ap, ◌∙◌, Option, false}
use Rattle.std.specs.Option.{option_map_or}
use Rattle.ios_meaning.specs.declared.deletion_index.Answer.{Answer}
use Rattle.ios_meaning.proofs.DeletionLists.{index_answers}
use Rattle.ios_meaning.proofs.deletion_index.answers_alone.Goals as goal

pub returns-in-Some : goal.returns-in-Some
returns-in-Some c =
    ap (λ (o : Option Answer). option_map_or (λ a. a.permit) o false) (sym c.in-Some.is)
    ∙ index_answers c.args.index.now c.args.community.now c.answer_on.result c.requires c.answer_on.ensures.range c.answer_on.ensures.value

pub returns-in-None : goal.returns-in-None
returns-in-None c =
    ap (λ (o : Option Answer). option_map_or (λ a. a.permit) o false) (sym c.in-None.is)
    ∙ index_answers c.args.index.now c.args.community.now c.answer_on.result c.requires c.answer_on.ensures.range c.answer_on.ensures.value
