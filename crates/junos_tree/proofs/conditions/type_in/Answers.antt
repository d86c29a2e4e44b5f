use Rattle.std.proofs.Common.{sym, subst, ◌≤◌}
use Rattle.std.specs.Prelude.{IfSome}
use Rattle.policy_text.specs.Phrases.{texts}
use Rattle.junos_tree.proofs.ConditionForms.{least_is_within}
use Rattle.junos_tree.proofs.conditions.type_in.Goals as goal

pub returns-clause-within : goal.returns-clause-within
returns-clause-within c = subst (λ o. IfSome o (λ l. c.args.length ≤ l.0)) (sym c.lengths_of_type.ensures) (least_is_within c.args.length (texts c.args.words.now))
