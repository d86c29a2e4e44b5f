use Rattle.std.proofs.Common.{ℕ, refl, subst}
use Rattle.community_branches.specs.Branches.{IsBranch, test_behind}
use Rattle.community_branches.proofs.Steps.{entries_start, entries_next}
use Rattle.community_branches.proofs.lists.branch_by_entries.Goals as goal

pub loop-rest-init : goal.loop-rest-init
loop-rest-init c = entries_start c.args.core.now c.args.change.now c.args.entries.now c.args.yes c.args.no c.requires.of_no

pub loop-rest-preserved : goal.loop-rest-preserved
loop-rest-preserved c =
    entries_next c.args.core.now c.loop-rest.core c.branch_by_test.new.core c.args.change.now c.args.entries.now c.loop-rest.rest.now c.last-item.result _ c.args.yes c.args.no c.loop-rest.node c.in_ok-node.node c.requires.of_yes c.requires.of_no
    c.loop-rest.invariant c.in-len1-up.len_at_least c.last-item.is refl
    (subst (λ (p : ℕ). IsBranch c.loop-rest.core c.branch_by_test.new.core (test_behind c.args.change.now c.last-item.result.test) p c.loop-rest.node c.in_ok-node.node) c.way-held.ensures c.in_ok-node.ensures)
