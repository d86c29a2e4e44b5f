use Rattle.std.proofs.Common.{◌≡◌, ◌++◌, length, ◌+◌, ◌<◌, ◌^◌}
use Rattle.std.specs.List.{AllByRecursion}
use Rattle.junos_layout.specs.Options.{defined_from, subroutine_name}
use Rattle.junos_policies.specs.Options.{terms_option}
use Rattle.junos_policies.proofs.options.push_subroutines.Given as goal

abbrev pub invariant-loop-rest : goal.invariant-loop-rest
invariant-loop-rest g l =
    (l.place + length l.rest < 2 ^ 63)
    × (l.out ++ defined_from (λ n d. terms_option (subroutine_name l.names.name.now n) (g.S.Subroutines.terms l.names d)) l.place l.rest ≡ l.fn.out ++ defined_from (λ n d. terms_option (subroutine_name l.names.name.now n) (g.S.Subroutines.terms l.names d)) l.before l.items)
    × (AllByRecursion (λ d. length (g.S.Subroutines.terms l.names d) < 2 ^ 63) l.rest → AllByRecursion (λ d. length (g.S.Subroutines.terms l.names d) < 2 ^ 63) l.items)

abbrev pub decreases-loop-rest : goal.decreases-loop-rest
decreases-loop-rest g l = length l.rest
