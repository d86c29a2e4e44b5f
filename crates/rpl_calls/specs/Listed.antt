-- What the code keeps of the arguments of calls.
use Rattle.std.specs.Prelude.{List, map, length}
use Rattle.rpl_calls.specs.Arguments.{ArgumentParts, targets, sources}
use Rattle.rpl_calls.specs.Said.{call_parts}
use Rattle.rpl_calls.specs.Table.{IsTable}
use Rattle.rpl_calls.specs.declared.arguments.Handing.{Handing}
use Rattle.rpl_calls.specs.declared.table.Table.{Table}

-- an argument as clauses see it
abbrev pub handing_parts : Handing → ArgumentParts
handing_parts h = record { call = call_parts h.call.now; place = h.place }

abbrev pub handings_in : List Handing → List ArgumentParts
handings_in hs = map handing_parts hs

-- the tables tell which arguments are handed to a parameter, and which hand one on
pub record AreTold (args : List ArgumentParts) (to on : Table) : Type 0 where
  pub handed : IsTable (targets args) to (length (targets args))
  pub handing : IsTable (sources args) on (length (sources args))
