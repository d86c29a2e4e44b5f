use Rattle.std.proofs.Common.{sym, ◌∙◌}
use Rattle.step_search.proofs.Tables.{nothing_left}
use Rattle.rpl_calls.proofs.Saying.{opened, passed, more}
use Rattle.rpl_calls.proofs.said.say.Goals as goal

pub returns-in-Some : goal.returns-in-Some
returns-in-Some c = λ all rest saying. opened all rest c.args.item.now c.args.said.now c.args.policy c.in_ok-behind.behind c.in-Some.kind (sym c.opens.ensures ∙ c.in-Some.is) c.in_ok-behind.ensures saying

pub returns-in_default-policy : goal.returns-in_default-policy
returns-in_default-policy c = λ all rest saying. passed all rest c.args.item.now c.args.said.now c.args.policy (sym c.opens.ensures ∙ nothing_left c.opens.result c.in_default.not-Some) (nothing_left c.args.policy c.in_default-policy.not-Some) saying

pub returns : goal.returns
returns c = λ all rest saying. more all rest c.args.item.now c.args.said.now _ c.args.policy c.in-Some-policy.open (sym c.opens.ensures ∙ nothing_left c.opens.result c.in_default.not-Some) c.in-Some-policy.is c.in_ok-push_call.ensures c.in_ok-push_own.ensures c.in_ok-push_setting.ensures saying
