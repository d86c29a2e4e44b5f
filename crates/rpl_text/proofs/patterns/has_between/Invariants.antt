use Rattle.std.proofs.Common.{◌≡◌, ◌||◌, nat_lt, length}
use Rattle.std.specs.List.{list_all}
use Rattle.path_patterns.specs.PathItems.{has_digit}
use Rattle.rpl_text.proofs.patterns.has_between.Given as goal

abbrev pub invariant-loop-rest : goal.invariant-loop-rest
invariant-loop-rest l = list_all (λ d. has_digit l.set d || (nat_lt d l.least || nat_lt l.most d)) l.rest ≡ list_all (λ d. has_digit l.set d || (nat_lt d l.least || nat_lt l.most d)) l.digits

abbrev pub decreases-loop-rest : goal.decreases-loop-rest
decreases-loop-rest l = length l.rest
