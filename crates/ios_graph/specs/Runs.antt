-- What an entry gives a route for which it holds, where the run changes the route at once (Cisco IOS IP Routing:
-- Protocol-Independent command reference, 'continue').
use Rattle.std.specs.Prelude.{ℕ, ◌<◌, true, false, List, [], ◌∷◌, Option, Some, None, unwrap_or}
use Rattle.std.specs.List.{AllByRecursion}
use Rattle.route_types.specs.Route.{RouteParts}
use Rattle.route_types.specs.declared.route.Outcome.{Outcome}
use Rattle.route_types.specs.declared.route.Outcome.TheVariants.{Reject, Accept}
use Rattle.ios_tree.specs.declared.item.IosItem.{IosItem}
use Rattle.ios_reader.specs.Entries.{Entry}
use Rattle.ios_meaning.specs.Meaning.{set_by_entry, continuation_of}
use Rattle.ios_readings.specs.AtOnce.{run_at_once, from_number}

-- what comes behind the changes of an entry: the route is accepted, or the run goes on over those entries behind it
-- that have the number or a greater one; without a number it goes on over all of them
abbrev pub given_behind : List IosItem → List Entry → Option (Option ℕ) → RouteParts → Outcome
given_behind all behind None r = Accept r
given_behind all behind (Some target) r = run_at_once all true 0 (from_number (unwrap_or target 0) behind) r

-- what an entry gives a route for which it holds
abbrev pub given_by : List IosItem → Entry → List Entry → RouteParts → Outcome
given_by all e behind r = elim e.permit [ true ↦ given_behind all behind (continuation_of e.lines) (set_by_entry all e r) | false ↦ Reject ]

-- each entry has a lower number than all those behind it
abbrev pub AreRising : List Entry → Type 0
AreRising [] = Unit {0}
AreRising (e ∷ es) = AllByRecursion (λ f. e.number < f.number) es × AreRising es
