use Rattle.std.proofs.Common.{◌≡◌, length}
use Rattle.std.specs.Prelude.{map}
use Rattle.route_drafts.specs.Drafts.{route_of}
use Rattle.junos_reader.specs.Facts.{forms_of}
use Rattle.junos_meaning.specs.Meaning.{acted_by}
use Rattle.junos_meaning.proofs.actions.acted_by.Given as goal

abbrev pub decreases-loop-rest : goal.decreases-loop-rest
decreases-loop-rest l = length l.rest

abbrev pub invariant-loop-rest : goal.invariant-loop-rest
invariant-loop-rest l =
    acted_by (forms_of l.world.items.now) (map (λ a. a.now) l.rest) (route_of l.world.prefix.now l.draft)
    ≡ acted_by (forms_of l.world.items.now) (map (λ a. a.now) l.actions) (route_of l.world.prefix.now l.fn.start)
