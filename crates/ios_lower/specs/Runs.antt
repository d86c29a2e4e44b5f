-- What entries without `continue` give a route (Cisco IOS IP Routing: Protocol-Independent command reference,
-- 'route-map'): the first entry that holds decides.
use Rattle.std.specs.Prelude.{true, false, List, [], ◌∷◌}
use Rattle.route_types.specs.Route.{RouteParts}
use Rattle.route_types.specs.declared.route.Outcome.{Outcome}
use Rattle.route_types.specs.declared.route.Outcome.TheVariants.{Reject, Accept}
use Rattle.ios_tree.specs.declared.item.IosItem.{IosItem}
use Rattle.ios_reader.specs.Entries.{Entry}
use Rattle.ios_meaning.specs.Meaning.{entry_holds, set_by_entry}

-- what an entry gives a route for which it holds
abbrev pub given_by : List IosItem → Entry → RouteParts → Outcome
given_by all e r = elim e.permit [ true ↦ Accept (set_by_entry all e r) | false ↦ Reject ]

-- what an entry gives a route, or else what comes behind the entry
abbrev pub entry_or : List IosItem → Entry → RouteParts → Outcome → Outcome
entry_or all e r behind = elim (entry_holds all r e) [ true ↦ given_by all e r | false ↦ behind ]

-- what the first of the entries that holds gives a route, or else what comes behind them
unfoldable pub entries_or : List IosItem → List Entry → RouteParts → Outcome → Outcome
entries_or all [] r behind = behind
entries_or all (e ∷ es) r behind = entry_or all e r (entries_or all es r behind)
