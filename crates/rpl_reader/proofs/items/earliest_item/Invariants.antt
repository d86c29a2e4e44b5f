use Rattle.std.proofs.Common.{◌≡◌, ◌+◌, ◌≤◌, length, false}
use Rattle.rpl_reader.specs.Facts.{nothing_before}
use Rattle.rpl_reader.specs.Known.{known_facts, known_block, told}
use Rattle.rpl_reader.specs.Faults.{earliest_item}
use Rattle.rpl_reader.proofs.items.earliest_item.Given as goal

abbrev pub invariant-loop-rest : goal.invariant-loop-rest
invariant-loop-rest l = record {
  is : earliest_item l.known.policy.now (known_facts l.known) (known_block l.known) l.found (told l.state) l.state.reached l.rest
      ≡ earliest_item l.known.policy.now (known_facts l.known) (known_block l.known) l.fn.other nothing_before false l.items;
  few : l.state.ifs + length l.rest ≤ length l.items;
}

abbrev pub decreases-loop-rest : goal.decreases-loop-rest
decreases-loop-rest l = length l.rest
