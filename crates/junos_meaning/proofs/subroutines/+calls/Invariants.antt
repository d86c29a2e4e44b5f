use Rattle.std.proofs.Common.{◌≡◌, ◌+◌, ◌*◌, length}
use Rattle.std.specs.Prelude.{map, ◌&&◌}
use Rattle.std.specs.List.{list_any}
use Rattle.route_drafts.specs.Drafts.{route_of}
use Rattle.junos_reader.specs.Facts.{forms_of}
use Rattle.junos_reader.specs.Statements.{is_calling_condition}
use Rattle.junos_meaning.specs.Conditions.{from_holds, call_holds}
use Rattle.junos_meaning.specs.Meaning.{accepts, terms_accept}
use Rattle.junos_meaning.specs.Regions.{content_of}
use Rattle.junos_meaning.specs.Sets.{policy_terms}
use Rattle.junos_meaning.specs.Subroutines.{AreRight}
use Rattle.junos_meaning.proofs.subroutines.+calls.Given as goal

abbrev pub decreases-region_holds : goal.decreases-region_holds
decreases-region_holds l = 8 * l.calls + 5

abbrev pub decreases-from_holds : goal.decreases-from_holds
decreases-from_holds l = 8 * l.calls + 4

abbrev pub decreases-calls_hold : goal.decreases-calls_hold
decreases-calls_hold l = 8 * l.calls + 3

abbrev pub decreases-some_accepts : goal.decreases-some_accepts
decreases-some_accepts l = 8 * l.calls + 2

abbrev pub decreases-accepts : goal.decreases-accepts
decreases-accepts l = 8 * l.calls + 1

abbrev pub decreases-terms_accept : goal.decreases-terms_accept
decreases-terms_accept l = 8 * l.calls + 6

abbrev pub decreases-calls_hold-loop-rest : goal.decreases-calls_hold-loop-rest
decreases-calls_hold-loop-rest l = length l.rest

abbrev pub invariant-calls_hold-loop-rest : goal.invariant-calls_hold-loop-rest
invariant-calls_hold-loop-rest l =
    (list_any (λ c. is_calling_condition c && call_holds (accepts l.calls (forms_of l.world.items.now) (route_of l.world.prefix.now l.draft)) c) (map (λ c. c.now) l.rest)
    ≡ list_any (λ c. is_calling_condition c && call_holds (accepts l.calls (forms_of l.world.items.now) (route_of l.world.prefix.now l.draft)) c) (map (λ c. c.now) l.conditions))
    × AreRight l.known.known (forms_of l.world.items.now) (route_of l.world.prefix.now l.draft)

abbrev pub decreases-some_accepts-loop-rest : goal.decreases-some_accepts-loop-rest
decreases-some_accepts-loop-rest l = length l.rest

abbrev pub invariant-some_accepts-loop-rest : goal.invariant-some_accepts-loop-rest
invariant-some_accepts-loop-rest l =
    (list_any (accepts l.calls (forms_of l.world.items.now) (route_of l.world.prefix.now l.draft)) l.rest
    ≡ list_any (accepts l.calls (forms_of l.world.items.now) (route_of l.world.prefix.now l.draft)) l.names)
    × AreRight l.known.known (forms_of l.world.items.now) (route_of l.world.prefix.now l.draft)

abbrev pub decreases-terms_accept-loop-rest : goal.decreases-terms_accept-loop-rest
decreases-terms_accept-loop-rest l = length l.rest

abbrev pub invariant-terms_accept-loop-rest : goal.invariant-terms_accept-loop-rest
invariant-terms_accept-loop-rest l =
    (terms_accept (λ t. from_holds (forms_of l.world.items.now) (accepts l.calls (forms_of l.world.items.now) (route_of l.world.prefix.now l.draft)) (route_of l.world.prefix.now l.draft) t.conditions) (map content_of l.rest)
    ≡ terms_accept (λ t. from_holds (forms_of l.world.items.now) (accepts l.calls (forms_of l.world.items.now) (route_of l.world.prefix.now l.draft)) (route_of l.world.prefix.now l.draft) t.conditions) (policy_terms (forms_of l.world.items.now) l.name))
    × AreRight l.known.known (forms_of l.world.items.now) (route_of l.world.prefix.now l.draft)
