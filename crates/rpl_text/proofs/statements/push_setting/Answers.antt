use Rattle.std.proofs.Common.{◌≡◌, ◌++◌, subst, ℕ, List}
use Rattle.std.specs.Prelude.{IfOk}
use Rattle.rpl_text.proofs.Texts.{setting_line}
use Rattle.rpl_text.proofs.statements.push_setting.Goals as goal

pub returns : goal.returns
returns c =
    subst (λ (t : List ℕ). IfOk c.push_set_then.result (λ _. c.push_set_then.new.out.items ≡ c.args.out.now.items ++ t)) (setting_line c.args.setting.now) c.push_set_then.ensures
