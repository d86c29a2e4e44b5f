use Rattle.std.proofs.Common.{◌≡◌, ◌+◌, ◌<◌, ◌++◌, length, map}
use Rattle.std.specs.List.{AllByRecursion, filter}
use Rattle.path_patterns.specs.PathItems.{has_digit}
use Rattle.rpl_text.proofs.patterns.push_digits.Given as goal

abbrev pub invariant-loop-rest : goal.invariant-loop-rest
invariant-loop-rest l = (l.out.items ++ map (λ d. 48 + d) (filter (has_digit l.set) l.rest) ≡ l.initial.out.items ++ map (λ d. 48 + d) (filter (has_digit l.set) l.digits)) × AllByRecursion (λ d. d < 16) l.rest

abbrev pub decreases-loop-rest : goal.decreases-loop-rest
decreases-loop-rest l = length l.rest
