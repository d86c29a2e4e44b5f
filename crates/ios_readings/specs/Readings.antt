-- The other reading of `continue` (Cisco IOS IP Routing: Protocol-Independent command reference, 'continue'): an
-- entry's tests read the route as changed by the entries that held before. Both readings are this project's own.
use Rattle.std.specs.Prelude.{ℕ, true, false, ◌&&◌, nat_le, List, [], ◌∷◌, ◌++◌, Some, None}
use Rattle.route_types.specs.Route.{RouteParts}
use Rattle.route_types.specs.declared.route.Outcome.{Outcome}
use Rattle.route_types.specs.declared.route.Outcome.TheVariants.{Reject, Accept}
use Rattle.ios_tree.specs.declared.item.IosItem.{IosItem}
use Rattle.ios_reader.specs.Entries.{Entry, entries_of}
use Rattle.ios_meaning.specs.Order.{in_order}
use Rattle.ios_meaning.specs.Meaning.{entry_holds, set_by_entries, continuation_of, at_end}

-- the run over the remaining entries, in order of their numbers, those below `least` being passed over;
-- `held` are the entries that held so far. The tests of an entry read the route as those have changed it.
unfoldable pub run_on_changed : List IosItem → RouteParts → ℕ → List Entry → List Entry → Outcome
run_on_changed all r least held [] = at_end all r held
run_on_changed all r least held (e ∷ es) = elim (nat_le least e.number && entry_holds all (set_by_entries all held r) e) [
  | false ↦ run_on_changed all r least held es
  | true ↦ elim e.permit [
    | false ↦ Reject
    | true ↦ elim (continuation_of e.lines) [
      | None ↦ Accept (set_by_entries all (held ++ e ∷ []) r)
      | Some target ↦ elim target [
        | None ↦ run_on_changed all r least (held ++ e ∷ []) es
        | Some s ↦ run_on_changed all r s (held ++ e ∷ []) es
      ]
    ]
  ]
]

-- the meaning, by this reading, of the policy of this name in a tree, on a route
unfoldable pub meaning_on_changed : List IosItem → List ℕ → RouteParts → Outcome
meaning_on_changed all name r = run_on_changed all r 0 [] (in_order (λ e. e.number) (entries_of name all))
