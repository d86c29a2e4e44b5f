use Rattle.std.proofs.Common.{sym, ap, ◌∙◌, ℕ, List, add-one, arith}
use Rattle.std.specs.List.{list_any}
use denote.Ref.{Bor}
use Rattle.policy_calls.specs.Depth.{is_at}
use Rattle.policy_calls.specs.Callees.{nows, links_of, callees_at}
use Rattle.policy_calls.specs.Search.{among}
use Rattle.policy_calls.proofs.Depths.{one_deeper, at_start}
use Rattle.policy_calls.proofs.depth.deepest.Goals as goal

pub loop-depth-init : goal.loop-depth-init
loop-depth-init c = record {
  same = c.in_ok-level.ensures.same;
  at = at_start (links_of c.args.calls.now) (nows c.args.names.now) (nows c.in_ok-level.level.order.items) c.in_ok-level.ensures.all;
  within = omega arith;
}

pub loop-depth-preserved : goal.loop-depth-preserved
loop-depth-preserved c = record {
  same = c.in_ok-level-2.ensures.same;
  at = λ q.
      one_deeper c.in_ok-callees.callees c.args.calls.now (nows c.args.names.now) (nows c.loop-depth.level.order.items) (nows c.in_ok-level-2.level.order.items) c.loop-depth.depth c.in_ok-callees.ensures c.loop-depth.invariant.at
      (λ p. c.in_ok-level-2.ensures.called p ∙ ap (λ (xs : List (Bor (List ℕ))). list_any (λ r. among (callees_at c.in_ok-callees.callees r) p) (nows xs)) c.as_slice.ensures.value) q
      ∙ ap (λ (n : ℕ). is_at (links_of c.args.calls.now) (nows c.args.names.now) n q) (sym (add-one c.loop-depth.depth));
  within = omega arith;
}
