use Rattle.std.proofs.Common.{◌∙◌, sym}
use Rattle.ios_tree.proofs.Forms.Options.{option_none, option_taken, option_left}
use Rattle.ios_tree.proofs.words.option_in.Goals as goal

pub returns-in_default : goal.returns-in_default
returns-in_default c = option_none c.args.key.now c.args.words.now c.in_default.len_below

pub returns-then-is : goal.returns-then-is
returns-then-is c = option_taken c.args.key.now c.args.words.now c.last-item.result c.in-len2-up.len_at_least c.last-item.is (sym c.is.ensures ∙ c.if-is.true)

pub returns : goal.returns
returns c = option_left c.args.key.now c.args.words.now c.last-item.result c.in-len2-up.len_at_least c.last-item.is (sym c.is.ensures ∙ c.if-is.false)
