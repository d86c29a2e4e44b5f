use Rattle.std.proofs.Common.{sym, ◌∙◌}
use Rattle.policy_calls.specs.Callees.{nows}
use Rattle.policy_calls.specs.Ranks.{rank_at}
use Rattle.policy_calls.proofs.Ranked.{shown}
use Rattle.policy_calls.proofs.ranks.show.Goals as goal

pub returns : goal.returns
returns c = λ e.
    shown (rank_at c.args.groups.now.ranks) c.args.calls.now c.args.kept.now (nows c.as_slice-roots.result.now) c.in_ok-down.down c.in_ok-up.up c.requires
    (sym c.all_fall.ensures ∙ c.if-not-all_fall.false) (sym c.are_apart.ensures ∙ c.if-not-are_apart.false) c.in_ok-down.ensures c.in_ok-up.ensures (sym c.all_between.ensures ∙ e)
