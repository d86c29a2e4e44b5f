use Rattle.std.proofs.Common.{◌≡◌, ◌++◌, true, length}
use Rattle.expressible_table.specs.Constructs.{entries_in}
use Rattle.expressible_table.specs.Noted.{has_hop_line, left_in}
use Rattle.expressible_table.proofs.listing.found_in.Given as goal

abbrev pub invariant-loop-rest : goal.invariant-loop-rest
invariant-loop-rest l = record {
  same : l.found.items ++ left_in l.lists.items.now l.name l.inside l.rest ≡ entries_in l.lists.items.now l.name l.items;
  asked : has_hop_line l.rest ≡ true → has_hop_line l.lists.items.now ≡ true;
}

abbrev pub decreases-loop-rest : goal.decreases-loop-rest
decreases-loop-rest l = length l.rest
