use Rattle.std.proofs.Common.{ap, List, Some}
use Rattle.prefix_sets.specs.declared.list.PrefixList.{PrefixList}
use Rattle.community_sets.specs.declared.list.CommList.{CommList}
use Rattle.core_nodes.specs.declared.atom.Atom.TheVariants.{Prefix, NextHop, Path, Community}
use Rattle.core_nodes.specs.declared.atom.PathList.{PathList}
use Rattle.ios_tree.specs.declared.item.MapLine.TheVariants.{MatchPrefix, MatchNextHop, MatchCommunity, MatchPath}
use Rattle.ios_lower.proofs.AtomLaws.{tested_line}
use Rattle.ios_lower.proofs.atoms.atom_of.Goals as goal

pub returns-in_ok-tested-in-MatchPrefix-clause-holds : goal.returns-in_ok-tested-in-MatchPrefix-clause-holds
returns-in_ok-tested-in-MatchPrefix-clause-holds c =
    tested_line c.args.lists.now.items.now c.args.line.now (MatchPrefix c.in-MatchPrefix.named) (Some (Prefix c.in_ok-tested-in-MatchPrefix.tested)) c.in-MatchPrefix.is
    (ap (λ (ls : List PrefixList). Some (Prefix ls)) c.in_ok-tested-in-MatchPrefix.ensures) tt

pub returns-in_ok-tested-in-MatchNextHop-clause-holds : goal.returns-in_ok-tested-in-MatchNextHop-clause-holds
returns-in_ok-tested-in-MatchNextHop-clause-holds c =
    tested_line c.args.lists.now.items.now c.args.line.now (MatchNextHop c.in-MatchNextHop.named) (Some (NextHop c.in_ok-tested-in-MatchNextHop.tested)) c.in-MatchNextHop.is
    (ap (λ (ls : List PrefixList). Some (NextHop ls)) c.in_ok-tested-in-MatchNextHop.ensures) tt

pub returns-in_ok-tested-in-MatchCommunity-clause-holds : goal.returns-in_ok-tested-in-MatchCommunity-clause-holds
returns-in_ok-tested-in-MatchCommunity-clause-holds c =
    tested_line c.args.lists.now.items.now c.args.line.now (MatchCommunity c.in-MatchCommunity.named) (Some (Community c.in_ok-tested-in-MatchCommunity.tested)) c.in-MatchCommunity.is
    (ap (λ (ls : List CommList). Some (Community ls)) c.in_ok-tested-in-MatchCommunity.ensures) tt

pub returns-in_ok-tested-in-MatchPath-clause-holds : goal.returns-in_ok-tested-in-MatchPath-clause-holds
returns-in_ok-tested-in-MatchPath-clause-holds c =
    tested_line c.args.lists.now.items.now c.args.line.now (MatchPath c.in-MatchPath.named) (Some (Path c.in_ok-tested-in-MatchPath.tested)) c.in-MatchPath.is
    (ap (λ (ls : List PathList). Some (Path ls)) c.in_ok-tested-in-MatchPath.ensures.same) c.in_ok-tested-in-MatchPath.ensures.matched
