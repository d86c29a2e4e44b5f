use Rattle.std.proofs.Common.{◌≡◌, ◌||◌, length}
use Rattle.std.specs.List.{list_any}
use Rattle.policy_text.specs.NameSets.{has_name}
use Rattle.rpl_reader.specs.Causes.{repeats}
use Rattle.rpl_reader.proofs.causes.repeats.Given as goal

abbrev pub invariant-loop-rest : goal.invariant-loop-rest
invariant-loop-rest l = (list_any (λ q. has_name l.seen q 0 0) l.rest || repeats l.rest) ≡ repeats l.names

abbrev pub decreases-loop-rest : goal.decreases-loop-rest
decreases-loop-rest l = length l.rest
