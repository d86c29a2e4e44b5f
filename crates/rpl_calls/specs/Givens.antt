-- What arguments may be: what is written is it, and so is what hands on a parameter to which an argument is handed that may
-- be it.
use Rattle.std.specs.Prelude.{◌≡◌, List, [], Some, None, map, slice_get}
use Rattle.step_search.specs.Found.{IsIn}
use Rattle.rpl_calls.specs.Parameters.{ParameterParts}
use Rattle.rpl_calls.specs.Arguments.{ArgumentParts, target, source, handing_on}
use Rattle.rpl_calls.specs.declared.given.Fact.{Fact}
use Rattle.rpl_calls.specs.declared.given.Given.{Given}

-- the fact of each argument that hands the parameter on
abbrev pub of_handing : List ArgumentParts → Fact → ParameterParts → List Given
of_handing args fact p = map (λ k. record { argument = k; fact = fact }) (handing_on args p)

-- from what an argument may be to what those may be that hand it on
abbrev pub next_givens : List ArgumentParts → Given → List Given
next_givens args g = elim (slice_get args g.argument) [ None ↦ [] | Some a ↦ of_handing args g.fact (target a) ]

-- the arguments of these hand nothing on
abbrev pub HandsNoneOn : List ArgumentParts → List Given → Type 0
HandsNoneOn args gs = (g : Given) → IsIn g gs → (a : ArgumentParts) → slice_get args g.argument ≡ Some a → source a ≡ None
