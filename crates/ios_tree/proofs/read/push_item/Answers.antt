use Rattle.std.proofs.Common.{◌≡◌, List, subst, sym, ap, ◌∙◌}
use Rattle.policy_text.specs.Phrases.{texts}
use Rattle.text_words.specs.declared.statement.Word.{Word}
use Rattle.ios_tree.specs.Numbering.{Tells, greatest_of, numbered_by}
use Rattle.ios_tree.specs.Tree.{form_of}
use Rattle.ios_tree.proofs.Reading.Numbers.{item_put, tells_more}
use Rattle.ios_tree.proofs.read.push_item.Goals as goal

pub returns-clause-items : goal.returns-clause-items
returns-clause-items c = λ more. item_put c.args.greatest.now c.args.items.now c.push.new.self more (form_of c.args.sort (texts c.args.statement.now.words)) c.in_ok-form.form c.args.statement.now.span c.requires (c.in_ok-form.ensures.value ∙ ap (λ (ws : List Word). numbered_by (greatest_of c.args.greatest.now) (form_of c.args.sort (texts ws))) c.as_slice.ensures) c.in_ok-push.ensures

pub returns-clause-greatest : goal.returns-clause-greatest
returns-clause-greatest c =
    let put : c.push.new.self ≡ _ = c.in_ok-push.ensures in
    subst (Tells c.numbered_form.new.greatest) (sym put) (tells_more c.args.greatest.now c.numbered_form.new.greatest c.args.items.now (record { form = c.in_ok-form.form; span = c.args.statement.now.span }) c.requires c.in_ok-form.ensures.raised)
