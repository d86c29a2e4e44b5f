-- The run that changes the route at once: where an entry holds and the run goes on, what the entry sets is set there,
-- and the tests behind it read what there is then. So a graph runs, whose nodes hand on one route.
use Rattle.std.specs.Prelude.{ℕ, Bool, true, false, ◌&&◌, nat_le, List, [], ◌∷◌, Some, None}
use Rattle.route_types.specs.Route.{RouteParts}
use Rattle.route_types.specs.declared.route.Outcome.{Outcome}
use Rattle.route_types.specs.declared.route.Outcome.TheVariants.{Reject, Accept}
use Rattle.ios_tree.specs.declared.item.IosItem.{IosItem}
use Rattle.ios_reader.specs.Entries.{Entry}
use Rattle.ios_meaning.specs.Meaning.{entry_holds, set_by_entry, continuation_of}

-- past the last entry: accepted where some entry held
abbrev pub end_by : Bool → RouteParts → Outcome
end_by held r = elim held [ true ↦ Accept r | false ↦ Reject ]

-- the run over the remaining entries, in order of their numbers, those below `least` being passed over; `held` says
-- whether some entry held before, and the route is as changed so far
unfoldable pub run_at_once : List IosItem → Bool → ℕ → List Entry → RouteParts → Outcome
run_at_once all held least [] r = end_by held r
run_at_once all held least (e ∷ es) r = elim (nat_le least e.number && entry_holds all r e) [
  | false ↦ run_at_once all held least es r
  | true ↦ elim e.permit [
    | false ↦ Reject
    | true ↦ elim (continuation_of e.lines) [
      | None ↦ Accept (set_by_entry all e r)
      | Some target ↦ elim target [
        | None ↦ run_at_once all true least es (set_by_entry all e r)
        | Some s ↦ run_at_once all true s es (set_by_entry all e r)
      ]
    ]
  ]
]

-- the entries of this number and above, of entries in order
abbrev pub from_number : ℕ → List Entry → List Entry
from_number n [] = []
from_number n (e ∷ es) = elim (nat_le n e.number) [ true ↦ e ∷ es | false ↦ from_number n es ]
