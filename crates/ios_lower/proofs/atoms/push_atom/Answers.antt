use Rattle.ios_lower.proofs.AtomWalks.{atoms_more, atoms_same}
use Rattle.ios_lower.proofs.atoms.push_atom.Goals as goal

pub returns-in_ok-push-in-Some : goal.returns-in_ok-push-in-Some
returns-in_ok-push-in-Some c = λ all left t.
    atoms_more c.args.lists.now.items.now all left c.args.line.now c.in_ok-tested.tested c.in-Some.atom c.args.found.now.items c.push.new.self.items
    c.in_ok-tested.ensures.same c.in-Some.is c.in_ok-tested.ensures.holds c.in_ok-push-in-Some.ensures.items t

pub returns-in-None : goal.returns-in-None
returns-in-None c = λ all left t.
    atoms_same c.args.lists.now.items.now all left c.args.line.now c.in_ok-tested.tested c.args.found.now.items c.in_ok-tested.ensures.same c.in-None.is c.in_ok-tested.ensures.holds t
