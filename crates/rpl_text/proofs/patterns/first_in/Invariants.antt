use Rattle.std.proofs.Common.{◌≡◌, ◌<◌, length}
use Rattle.std.specs.List.{AllByRecursion}
use Rattle.aspath_text.specs.IosText.{first_in}
use Rattle.rpl_text.proofs.patterns.first_in.Given as goal

abbrev pub invariant-loop-rest : goal.invariant-loop-rest
invariant-loop-rest l = (first_in l.set l.rest ≡ first_in l.set l.digits) × AllByRecursion (λ d. d < 16) l.rest

abbrev pub decreases-loop-rest : goal.decreases-loop-rest
decreases-loop-rest l = length l.rest
