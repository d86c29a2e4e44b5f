use Rattle.std.proofs.Common.{◌≡◌, length}
use Rattle.std.specs.Prelude.{map}
use Rattle.std.specs.List.{list_all}
use Rattle.rpl_meaning.specs.Conditions.{some_fits}
use Rattle.rpl_meaning.proofs.conditions.every_fits.Given as goal

abbrev pub decreases-loop-rest : goal.decreases-loop-rest
decreases-loop-rest l = length l.rest

abbrev pub invariant-loop-rest : goal.invariant-loop-rest
invariant-loop-rest l = list_all (some_fits l.communities) (map (λ r. r.now) l.rest) ≡ list_all (some_fits l.communities) (map (λ r. r.now) l.rects)
