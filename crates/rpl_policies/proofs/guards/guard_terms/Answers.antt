use Rattle.std.proofs.Common.{sym}
use Rattle.rpl_policies.specs.Names.{writing}
use Rattle.rpl_policies.proofs.Postfix.{guard_put}
use Rattle.rpl_policies.proofs.guards.guard_terms.Goals as goal

pub returns : goal.returns
returns c =
    guard_put (writing c.args.names.now) c.args.first.now c.args.others.now c.new-out.result c.push_literal.new.out c.push_later_literals.new.out
    (sym c.if-is_empty.ensures) c.new-out.ensures c.in_ok-push_literal.ensures c.in_ok-push_later_literals.ensures
