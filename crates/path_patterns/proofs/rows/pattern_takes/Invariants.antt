use Rattle.std.proofs.Common.{◌≡◌, length}
use Rattle.std.specs.Prelude.{map}
use Rattle.std.specs.List.{list_any}
use Rattle.path_patterns.specs.Items.{takes_of}
use Rattle.path_patterns.specs.Rows.{takes_all}
use Rattle.path_patterns.proofs.rows.pattern_takes.Given as goal

abbrev pub invariant-loop-rest : goal.invariant-loop-rest
invariant-loop-rest l = list_any (λ b. takes_all (map takes_of b.items) l.path) l.rest ≡ list_any (λ b. takes_all (map takes_of b.items) l.path) l.pattern.branches

abbrev pub decreases-loop-rest : goal.decreases-loop-rest
decreases-loop-rest l = length l.rest
