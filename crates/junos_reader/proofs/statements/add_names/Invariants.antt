use Rattle.std.proofs.Common.{◌≡◌, ◌||◌, ◌&&◌, ℕ, List, length}
use Rattle.std.specs.Prelude.{bytes_eq, ◌==◌}
use Rattle.std.specs.List.{list_any}
use Rattle.policy_text.specs.NameSets.{has_name}
use Rattle.junos_reader.proofs.statements.add_names.Given as goal

abbrev pub invariant-loop-rest : goal.invariant-loop-rest
invariant-loop-rest l = (q : List ℕ) (s n : ℕ) →
    (((n == 0) && (s == l.sort) && list_any (bytes_eq q) l.rest) || has_name l.names q s n) ≡ (((n == 0) && (s == l.sort) && list_any (bytes_eq q) l.more) || has_name l.initial.names q s n)

abbrev pub decreases-loop-rest : goal.decreases-loop-rest
decreases-loop-rest l = length l.rest
