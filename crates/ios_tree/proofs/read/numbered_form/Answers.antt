use Rattle.policy_text.specs.Phrases.{texts}
use Rattle.ios_tree.proofs.Reading.Numbers.{form_names}
use Rattle.ios_tree.proofs.read.numbered_form.Goals as goal

pub numbered-requires : goal.numbered-requires
numbered-requires c = form_names (texts c.args.words.now) c.args.sort c.in_ok-form.form c.in_ok-form.ensures
