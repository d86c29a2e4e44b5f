use Rattle.std.specs.Prelude.{map}
use Rattle.ios_lower.proofs.ChangeSteps.{both_sorts}
use Rattle.ios_lower.proofs.changes.entry_changes.Goals as goal

pub returns : goal.returns
returns c =
    both_sorts c.args.lists.now.items.now (map (λ l. l.now) c.args.lines.now) c.in_ok-found.found.items c.in_ok-others.others.items c.append.new.self.items
    c.in_ok-found.ensures c.in_ok-others.ensures c.in_ok-append.ensures.items
