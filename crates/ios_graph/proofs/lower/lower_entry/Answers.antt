use Rattle.std.proofs.Common.{subst, ℕ}
use Rattle.ios_meaning.specs.Drafts.{entry_of}
use Rattle.ios_graph.specs.Lowered.{IsTested}
use Rattle.ios_graph.proofs.Lowered.{lowered_more}
use Rattle.ios_graph.proofs.lower.lower_entry.Goals as goal

pub returns : goal.returns
returns c = λ es left rising l.
    lowered_more c.args.lists.now.items.now es left (entry_of c.args.entry.now) c.args.rows.now c.put_before.new.rows c.args.core.now c.lower_body.new.core c.lower_tests.new.core c.lower_tests-2.new.core
    c.in_ok-body.body c.in_ok-none_held.none_held c.in_ok-some_held.some_held rising l c.in_ok-body.ensures c.in_ok-none_held.ensures
    (subst (λ (m : ℕ). IsTested c.args.lists.now.items.now (entry_of c.args.entry.now) c.lower_tests.new.core c.lower_tests-2.new.core c.in_ok-body.body m c.in_ok-some_held.some_held) c.node_from-next.ensures c.in_ok-some_held.ensures)
    c.in_ok-put_before.ensures
