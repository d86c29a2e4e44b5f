use Rattle.junos_policies.proofs.Made.{made}
use Rattle.junos_policies.proofs.parts.parts_by.Goals as goal

pub returns : goal.returns
returns c =
    made c.args.steps.now (record { paths = c.in_ok-paths.paths.keys; communities = c.in_ok-communities.communities.keys; lists = c.in_ok-lists.lists.keys; tests = c.args.tests.keys; guards = c.args.guards.keys })
    c.all-all_lists.result.now c.all-all_tests.result.now c.all-all_guards.result.now c.all-all_lists.ensures.values c.all-all_tests.ensures.values c.all-all_guards.ensures.values
    c.in_ok-lists.ensures c.in_ok-paths.ensures c.in_ok-communities.ensures
