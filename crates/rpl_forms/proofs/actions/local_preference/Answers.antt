use Rattle.std.proofs.Common.{◌∙◌, sym, ap, ℕ, Option}
use Rattle.std.specs.Prelude.{option_map}
use Rattle.rpl_words.specs.declared.number.RplNumber.{RplNumber}
use Rattle.rpl_forms.specs.declared.item.Action.TheVariants.{SetLocalPreference}
use Rattle.rpl_forms.specs.Statements.{number_in_policy}
use Rattle.rpl_forms.proofs.actions.local_preference.Goals as goal

pub returns-in-None : goal.returns-in-None
unfolding number_in_policy
returns-in-None c = ap (λ (o : Option (RplNumber ℕ)). option_map (λ n. SetLocalPreference n) o) (sym c.in-None.is ∙ c.in_ok-number_behind.ensures)

pub returns-in-Some : goal.returns-in-Some
unfolding number_in_policy
returns-in-Some c = ap (λ (o : Option (RplNumber ℕ)). option_map (λ n. SetLocalPreference n) o) (sym c.in-Some.is ∙ c.in_ok-number_behind.ensures)
