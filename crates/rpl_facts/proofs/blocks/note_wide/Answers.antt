use Rattle.std.proofs.Common.{sym, ◌∙◌}
use Rattle.step_search.proofs.Tables.{nothing_left}
use Rattle.rpl_facts.proofs.Wide.{opened, passed, unnamed, noted}
use Rattle.rpl_facts.proofs.blocks.note_wide.Goals as goal

pub returns-in-Some : goal.returns-in-Some
returns-in-Some c = λ rest all w. opened c.args.item.now rest all c.args.names.now c.args.names.now c.args.name c.community_opened.result c.in-Some.kind (sym c.opens.ensures ∙ c.in-Some.is) c.community_opened.ensures w

pub returns-then-not-is_wide : goal.returns-then-not-is_wide
returns-then-not-is_wide c = λ rest all w. passed c.args.item.now rest all c.args.names.now c.args.names.now c.args.name c.args.name (sym c.opens.ensures ∙ nothing_left c.opens.result c.in_default.not-Some) (sym c.is_wide.ensures ∙ c.if-not-is_wide.true) w

pub returns-in_default-name : goal.returns-in_default-name
returns-in_default-name c = λ rest all w. unnamed c.args.item.now rest all c.args.names.now c.args.names.now c.args.name c.args.name (sym c.opens.ensures ∙ nothing_left c.opens.result c.in_default.not-Some) (nothing_left c.args.name c.in_default-name.not-Some) w

pub returns : goal.returns
returns c = λ rest all w. noted c.args.item.now rest all c.args.names.now c.add_name.new.names c.args.name c.args.name c.in-Some-name.set (sym c.opens.ensures ∙ nothing_left c.opens.result c.in_default.not-Some) (sym c.is_wide.ensures ∙ c.if-not-is_wide.false) c.in-Some-name.is c.in_ok-add_name.ensures w
