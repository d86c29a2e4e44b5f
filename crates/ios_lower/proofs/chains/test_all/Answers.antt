use Rattle.std.proofs.Common.{subst, List}
use Rattle.core_nodes.specs.declared.atom.Atom.{Atom}
use Rattle.ios_lower.specs.Chains.{Tests}
use Rattle.ios_lower.proofs.ChainLaws.{tests_none, tests_more}
use Rattle.ios_lower.proofs.Ends.{popped}
use Rattle.ios_lower.proofs.chains.test_all.Goals as goal

pub loop-atom-init : goal.loop-atom-init
loop-atom-init c = tests_none c.args.core.now c.args.atoms.items c.args.yes c.args.no c.requires.of_yes

pub test-requires-clause-of_yes : goal.test-requires-clause-of_yes
test-requires-clause-of_yes c = c.loop-atom.invariant.within

pub test-requires-clause-of_no : goal.test-requires-clause-of_no
test-requires-clause-of_no c = c.loop-atom.invariant.keeps.longer c.args.no c.requires.of_no

pub loop-atom-preserved : goal.loop-atom-preserved
loop-atom-preserved c =
    tests_more c.args.core.now c.loop-atom.core c.test.new.self c.args.atoms.items c.pop.new.self.items c.in-Some.atom c.args.yes c.args.no c.loop-atom.node c.in_ok-next.next c.requires.of_no
    (subst (λ (xs : List Atom). Tests c.args.core.now c.loop-atom.core c.args.atoms.items xs c.args.yes c.args.no c.loop-atom.node)
    (popped c.loop-atom.left.items c.pop.new.self.items c.pop.result c.in-Some.atom c.pop.ensures.items c.in-Some.is) c.loop-atom.invariant)
    c.in_ok-next.ensures.made c.test.ensures.keeps
