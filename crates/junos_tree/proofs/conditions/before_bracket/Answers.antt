use Rattle.std.proofs.Common.{◌∙◌, sym}
use Rattle.junos_tree.proofs.ValueLists.{no_words, bracket_last, other_last}
use Rattle.junos_tree.proofs.conditions.before_bracket.Goals as goal

pub returns-in_default : goal.returns-in_default
returns-in_default c = no_words c.args.words.now c.in_default.len_below

pub returns-then-is : goal.returns-then-is
returns-then-is c = bracket_last c.args.words.now c.last-item.result c.in-len1-up.len_at_least c.last-item.is (sym c.is.ensures ∙ c.if-is.true)

pub returns : goal.returns
returns c = other_last c.args.words.now c.last-item.result c.in-len1-up.len_at_least c.last-item.is (sym c.is.ensures ∙ c.if-is.false)
