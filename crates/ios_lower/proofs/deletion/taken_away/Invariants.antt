use Rattle.std.proofs.Common.{length}
use Rattle.std.specs.Prelude.{map}
use Rattle.ios_lower.proofs.Deletions.{Found}
use Rattle.ios_lower.proofs.deletion.taken_away.Given as goal

abbrev pub invariant-loop-ahead : goal.invariant-loop-ahead
invariant-loop-ahead l = Found (map (λ e. e.now) l.entries) (map (λ e. e.now) l.ahead) l.removed.items l.kept.items

abbrev pub decreases-loop-ahead : goal.decreases-loop-ahead
decreases-loop-ahead l = length l.ahead
