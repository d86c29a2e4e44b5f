use Rattle.std.proofs.Common.{◌≡◌, length}
use Rattle.std.specs.Prelude.{map, ◌&&◌}
use Rattle.std.specs.List.{list_any}
use Rattle.route_drafts.specs.Drafts.{route_of}
use Rattle.junos_reader.specs.Facts.{forms_of}
use Rattle.junos_meaning.specs.Conditions.{is_of, condition_holds}
use Rattle.junos_meaning.proofs.conditions.some_hold.Given as goal

abbrev pub decreases-loop-rest : goal.decreases-loop-rest
decreases-loop-rest l = length l.rest

abbrev pub invariant-loop-rest : goal.invariant-loop-rest
invariant-loop-rest l = list_any (λ c. is_of l.kind c && condition_holds (forms_of l.world.items.now) (route_of l.world.prefix.now l.draft) c) (map (λ c. c.now) l.rest) ≡ list_any (λ c. is_of l.kind c && condition_holds (forms_of l.world.items.now) (route_of l.world.prefix.now l.draft) c) (map (λ c. c.now) l.conditions)
