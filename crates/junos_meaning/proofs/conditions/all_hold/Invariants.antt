use Rattle.std.proofs.Common.{◌≡◌, length}
use Rattle.std.specs.Prelude.{map}
use Rattle.std.specs.List.{list_all}
use Rattle.route_drafts.specs.Drafts.{route_of}
use Rattle.junos_reader.specs.Facts.{forms_of}
use Rattle.junos_meaning.specs.Conditions.{is_of, condition_holds, one_holds}
use Rattle.junos_meaning.proofs.conditions.all_hold.Given as goal

abbrev pub decreases-loop-rest : goal.decreases-loop-rest
decreases-loop-rest l = length l.rest

abbrev pub invariant-loop-rest : goal.invariant-loop-rest
invariant-loop-rest l =
    list_all (λ kind. one_holds (is_of kind) (condition_holds (forms_of l.world.items.now) (route_of l.world.prefix.now l.draft)) (map (λ c. c.now) l.conditions)) l.rest
    ≡ list_all (λ kind. one_holds (is_of kind) (condition_holds (forms_of l.world.items.now) (route_of l.world.prefix.now l.draft)) (map (λ c. c.now) l.conditions)) l.kinds
