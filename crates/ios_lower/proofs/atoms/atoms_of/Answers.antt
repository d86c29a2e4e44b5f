use Rattle.std.proofs.Common.{subst, List}
use Rattle.std.specs.Prelude.{map}
use Rattle.std.specs.Borrow.{Bor}
use Rattle.path_patterns.proofs.Lists.{first_tail}
use Rattle.ios_tree.specs.declared.item.MapLine.{MapLine}
use Rattle.ios_lower.specs.AtomSteps.{AtomsFound}
use Rattle.ios_lower.proofs.AtomWalks.{atoms_all}
use Rattle.ios_lower.proofs.Ends.{none_left}
use Rattle.ios_lower.proofs.atoms.atoms_of.Goals as goal

pub loop-rest-preserved : goal.loop-rest-preserved
loop-rest-preserved c =
    c.in_ok-push_atom.ensures (map (λ l. l.now) c.args.lines.now) _
    (subst (λ (ls : List (Bor MapLine)). AtomsFound c.args.lists.now.items.now (map (λ l. l.now) c.args.lines.now) (map (λ l. l.now) ls) c.loop-rest.found.items)
    (first_tail c.loop-rest.rest.now c.line-item.result c.in-len1-up.len_at_least c.line-item.is) c.loop-rest.invariant)

pub returns-clause-same : goal.returns-clause-same
returns-clause-same c =
    (atoms_all c.args.lists.now.items.now (map (λ l. l.now) c.args.lines.now) c.loop-rest.found.items
    (subst (λ (ls : List (Bor MapLine)). AtomsFound c.args.lists.now.items.now (map (λ l. l.now) c.args.lines.now) (map (λ l. l.now) ls) c.loop-rest.found.items)
    (none_left c.loop-rest.rest.now c.in_default.len_below) c.loop-rest.invariant)).0
