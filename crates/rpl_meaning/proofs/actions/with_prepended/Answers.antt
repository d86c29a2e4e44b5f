use Rattle.std.proofs.Common.{◌∙◌}
use Rattle.std.proofs.lemmas.Result.{IfOk-weaker}
use Rattle.rpl_meaning.specs.Communities.{stepped}
use Rattle.rpl_meaning.specs.Walk.{route_at}
use Rattle.rpl_meaning.proofs.ActionLaws.{put_before}
use Rattle.rpl_meaning.proofs.actions.with_prepended.Goals as goal

pub returns : goal.returns
returns c =
    IfOk-weaker c.with_prepended.result _ _ (λ d made p. made stepped p.table p.state.route ∙ put_before _ _ _ _ c.value_32-number.ensures c.value_8.ensures (route_at p c.args.changes)) c.with_prepended.ensures
