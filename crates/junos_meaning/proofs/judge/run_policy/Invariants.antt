use Rattle.std.proofs.Common.{◌≡◌, length}
use Rattle.std.specs.Prelude.{map}
use Rattle.route_drafts.specs.Drafts.{route_of}
use Rattle.junos_reader.specs.Facts.{forms_of}
use Rattle.junos_meaning.specs.Meaning.{run_terms}
use Rattle.junos_meaning.specs.Regions.{content_of}
use Rattle.junos_meaning.specs.Sets.{policy_terms}
use Rattle.junos_meaning.specs.Subroutines.{AreRight}
use Rattle.junos_meaning.proofs.judge.run_policy.Given as goal

abbrev pub decreases-loop-rest : goal.decreases-loop-rest
decreases-loop-rest l = length l.rest

abbrev pub invariant-loop-rest : goal.invariant-loop-rest
invariant-loop-rest l =
    (run_terms (forms_of l.world.items.now) (map content_of l.rest) (route_of l.world.prefix.now l.draft)
    ≡ run_terms (forms_of l.world.items.now) (policy_terms (forms_of l.world.items.now) l.name) (route_of l.world.prefix.now l.fn.start))
    × AreRight l.known.known (forms_of l.world.items.now) (route_of l.world.prefix.now l.draft)
