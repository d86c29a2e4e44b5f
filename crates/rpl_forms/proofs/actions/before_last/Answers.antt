use Rattle.std.proofs.Common.{◌∙◌, sym}
use Rattle.rpl_forms.proofs.Last.{last_none, last_other, last_taken}
use Rattle.rpl_forms.proofs.actions.before_last.Goals as goal

pub returns-in_default : goal.returns-in_default
returns-in_default c = last_none c.args.key.now c.args.words.now c.in_default.len_below

pub returns-then-not-is_key : goal.returns-then-not-is_key
returns-then-not-is_key c = last_other c.args.key.now c.args.words.now c.last-item.result c.in-len1-up.len_at_least c.last-item.is (sym c.is_key.ensures ∙ c.if-not-is_key.true)

pub returns : goal.returns
returns c = last_taken c.args.key.now c.args.words.now c.last-item.result c.in-len1-up.len_at_least c.last-item.is (sym c.is_key.ensures ∙ c.if-not-is_key.false)
