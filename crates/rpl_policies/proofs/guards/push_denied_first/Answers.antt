use Rattle.rpl_policies.specs.Names.{writing}
use Rattle.rpl_policies.proofs.Postfix.{denied_put}
use Rattle.rpl_policies.proofs.guards.push_denied_first.Goals as goal

pub returns : goal.returns
returns c =
    denied_put c.args.out.now c.push_denied.new.out c.push_and.new.out c.push_later_denied.new.out c.push_test.new.out c.push.new.self (writing c.args.names.now) c.args.joined c.args.first.now c.args.others.now c.args.permitted.now
    c.in_ok-push_denied.ensures c.in_ok-push_and.ensures c.in_ok-push_later_denied.ensures c.in_ok-push_test.ensures c.in_ok-push.ensures
