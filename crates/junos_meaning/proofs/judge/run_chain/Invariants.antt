use Rattle.std.proofs.Common.{◌≡◌, length}
use Rattle.route_drafts.specs.Drafts.{route_of}
use Rattle.junos_reader.specs.Facts.{forms_of}
use Rattle.junos_meaning.specs.Meaning.{junos_meaning}
use Rattle.junos_meaning.specs.Subroutines.{AreRight}
use Rattle.junos_meaning.proofs.judge.run_chain.Given as goal

abbrev pub decreases-loop-rest : goal.decreases-loop-rest
decreases-loop-rest l = length l.rest

abbrev pub invariant-loop-rest : goal.invariant-loop-rest
invariant-loop-rest l =
    (junos_meaning (forms_of l.world.items.now) l.rest (route_of l.world.prefix.now l.draft) ≡ junos_meaning (forms_of l.world.items.now) l.names (route_of l.world.prefix.now l.fn.start))
    × AreRight l.known.known (forms_of l.world.items.now) (route_of l.world.prefix.now l.draft)
