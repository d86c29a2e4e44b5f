use Rattle.std.proofs.Common.{sym, ◌∙◌}
use Rattle.junos_reader.proofs.Behind.{behind_nothing}
use Rattle.junos_reader.proofs.state.pass_item.Goals as goal

pub returns-in_default : goal.returns-in_default
returns-in_default c = λ before behind.
    behind_nothing c.args.form.now before c.args.state.now (sym c.is_inner.ensures ∙ c.if-not-is_inner.false) c.in_default.not-Term c.in_default.not-Condition c.in_default.not-Action behind
