-- Worked examples of the two readings, which the checker computes.
use Rattle.std.proofs.Common.{◌≡◌, refl, ℕ, ◌+◌, true, List, [], ◌∷◌, Some, None}
use Rattle.std.specs.Prelude.{codes}
use Rattle.route_types.specs.Route.{RouteParts}
use Rattle.route_types.specs.declared.address.Family.TheVariants.{V4}
use Rattle.route_types.specs.declared.route.NextHop.TheVariants.{Own}
use Rattle.route_types.specs.declared.route.Origin.TheVariants.{Igp}
use Rattle.route_types.specs.declared.route.Outcome.TheVariants.{Accept}
use Rattle.policy_text.specs.Causes.{first_cause, first_fault_from}
use Rattle.policy_text.specs.declared.fault.Cause.TheVariants.{UnsettledTest}
use Rattle.ios_tree.specs.declared.item.IosForm.{IosForm}
use Rattle.ios_tree.specs.declared.item.IosForm.TheVariants.{MapHeader, Line}
use Rattle.ios_tree.specs.declared.item.IosItem.{IosItem}
use Rattle.ios_tree.specs.declared.item.MapLine.{MapLine}
use Rattle.ios_tree.specs.declared.item.MapLine.TheVariants.{MatchMetric, SetMetric, SetLocalPreference, Continue}
use Rattle.ios_reader.specs.Profile.{first_fault, first_fault_within}
use Rattle.ios_meaning.specs.Meaning.{run, ios_meaning}
use Rattle.ios_readings.specs.Readings.{run_on_changed, meaning_on_changed}

abbrev item : ℕ → IosForm → IosItem
item n form = record { form = form; span = record { start = n; end = n + 1 } }

abbrev header : ℕ → IosForm
header n = MapHeader (record { map = codes "M"; permit = true; number = n })

-- entry 10 sets a value and continues; entry 20 tests the metric and sets the local preference
abbrev policy : MapLine → ℕ → List IosItem
policy setting metric =
    item 0 (header 10) ∷ item 1 (Line setting) ∷ item 2 (Line (Continue None))
    ∷ item 3 (header 20) ∷ item 4 (Line (MatchMetric (metric ∷ []))) ∷ item 5 (Line (SetLocalPreference 200)) ∷ []

-- a route of metric 0
abbrev route : RouteParts
route = record { prefix = record { address = record { family = V4; bits = 167772160 }; length = 8 }; next_hop = Own; path = 65001 ∷ []; origin = Igp; local_preference = 100; med = 0; weight = 0; communities = [] }

-- ---- entry 10 sets the metric that entry 20 tests: the readings differ

-- the route arrives without the metric: entry 20 doesn't hold
arriving : ios_meaning (policy (SetMetric 50) 50) (codes "M") route ≡ Accept (record route { med = 50 })
unfolding ios_meaning run
arriving = refl

-- behind entry 10 it has the metric: entry 20 holds
on_changed : meaning_on_changed (policy (SetMetric 50) 50) (codes "M") route ≡ Accept (record route { med = 50; local_preference = 200 })
unfolding meaning_on_changed run_on_changed
on_changed = refl

-- so the policy is out of profile, by the line that tests the metric
refused : first_fault (codes "M") (policy (SetMetric 50) 50) ≡ Some (record { start = 4; end = 5 }, UnsettledTest)
unfolding first_fault_within first_fault_from first_cause
refused = refl

-- ---- entry 10 sets another value: the policy is in profile, and the readings agree

in_profile : first_fault (codes "M") (policy (SetLocalPreference 150) 0) ≡ None
unfolding first_fault_within first_fault_from first_cause
in_profile = refl

arriving_agrees : ios_meaning (policy (SetLocalPreference 150) 0) (codes "M") route ≡ Accept (record route { local_preference = 200 })
unfolding ios_meaning run
arriving_agrees = refl

on_changed_agrees : meaning_on_changed (policy (SetLocalPreference 150) 0) (codes "M") route ≡ Accept (record route { local_preference = 200 })
unfolding meaning_on_changed run_on_changed
on_changed_agrees = refl
