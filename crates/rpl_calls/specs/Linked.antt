-- How the code steps: from an argument to the one before it that has the same parameter, and to the last one of the next
-- parameter. So each argument is met by as many steps as it has neighbours, two at most.
use Rattle.std.specs.Prelude.{ℕ, List, [], ◌∷◌, ◌++◌, Option, Some, None, slice_get}
use Rattle.std.specs.List.{flat_map}
use Rattle.rpl_calls.specs.Asks.{OwnAsk}
use Rattle.rpl_calls.specs.Parameters.{last_in, earlier_of}
use Rattle.rpl_calls.specs.Arguments.{ArgumentParts, target, targets, sources}
use Rattle.rpl_calls.specs.Demands.{asked_of, asked_above}
use Rattle.rpl_calls.specs.declared.ask.Question.{Question}
use Rattle.rpl_calls.specs.declared.demand.Demand.{Demand}
use Rattle.rpl_calls.specs.declared.given.Fact.{Fact}
use Rattle.rpl_calls.specs.declared.given.Given.{Given}

-- ---- demands

abbrev pub asked_at : Question → Option ℕ → List Demand
asked_at question None = []
asked_at question (Some k) = record { argument = k; question = question } ∷ []

-- the question of the last argument that is handed to the parameter
abbrev pub last_asked : List ArgumentParts → OwnAsk → List Demand
last_asked args o = asked_at o.ask.question (last_in (targets args) (asked_of o))

abbrev pub linked_demands : List ArgumentParts → Demand → List Demand
linked_demands args d = asked_at d.question (earlier_of (targets args) d.argument) ++ elim (asked_above args d) [ None ↦ [] | Some o ↦ last_asked args o ]

abbrev pub starting_demands : List ArgumentParts → List OwnAsk → List Demand
starting_demands args asks = flat_map (last_asked args) asks

-- ---- what arguments may be

abbrev pub given_at : Fact → Option ℕ → List Given
given_at fact None = []
given_at fact (Some k) = record { argument = k; fact = fact } ∷ []

abbrev pub linked_givens : List ArgumentParts → Given → List Given
linked_givens args g =
    given_at g.fact (earlier_of (sources args) g.argument) ++ elim (slice_get args g.argument) [ None ↦ [] | Some a ↦ given_at g.fact (last_in (sources args) (target a)) ]
