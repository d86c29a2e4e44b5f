use Rattle.std.proofs.Common.{◌-◌, ◌≤◌, length}
use Rattle.rpl_calls.specs.Arguments.{sources}
use Rattle.rpl_calls.specs.Listed.{handings_in}
use Rattle.rpl_calls.specs.Table.{IsTable}
use Rattle.rpl_calls.proofs.arguments.table_of_sources.Given as goal

abbrev pub invariant-loop-place : goal.invariant-loop-place
invariant-loop-place l = record { within : l.place ≤ length l.arguments; told : IsTable (sources (handings_in l.arguments)) l.table l.place }

abbrev pub decreases-loop-place : goal.decreases-loop-place
decreases-loop-place l = length l.arguments - l.place
