use Rattle.std.proofs.Common.{◌∙◌}
use Rattle.std.specs.Prelude.{map}
use Rattle.policy_text.specs.Phrases.{texts}
use Rattle.ios_tree.proofs.Begins.{begins_by_after}
use Rattle.ios_tree.proofs.items.begin_with.Goals as goal

pub returns : goal.returns
returns c = c.is_some.ensures ∙ begins_by_after (λ r. texts r.now) c.after.result (map (λ k. k.now) c.args.keys.now) (texts c.args.words.now) c.after.ensures
