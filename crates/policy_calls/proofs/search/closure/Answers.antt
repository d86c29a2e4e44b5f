use Rattle.std.proofs.Common.{arith}
use Rattle.policy_calls.specs.Callees.{nows}
use Rattle.policy_calls.proofs.Notes.{search_goes, search_ends}
use Rattle.policy_calls.proofs.search.closure.Goals as goal

pub loop-next-preserved : goal.loop-next-preserved
loop-next-preserved c =
    search_goes c.args.callees.now (nows c.args.names.now) c.loop-next.order.items c.note_callees.new.order.items c.loop-next.seen c.note_callees.new.seen c.loop-next.next c.index-name.result.now c.loop-next.invariant (omega arith)
    c.index-name.ensures c.in_ok-note_callees.ensures

pub returns : goal.returns
returns c = search_ends c.args.callees.now (nows c.args.names.now) c.loop-next.order.items c.loop-next.seen c.loop-next.next c.loop-next.invariant (omega arith)
