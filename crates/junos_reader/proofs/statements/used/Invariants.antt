use Rattle.std.proofs.Common.{◌≡◌, ◌||◌, ◌&&◌, ℕ, List, length}
use Rattle.std.specs.List.{list_any}
use Rattle.policy_text.specs.NameSets.{has_name}
use Rattle.junos_tree.specs.declared.item.StatementSort.{StatementSort}
use Rattle.junos_reader.specs.Statements.{names_it}
use Rattle.junos_reader.specs.Forms.{sort_code}
use Rattle.junos_reader.specs.Known.{plain_statements}
use Rattle.junos_reader.proofs.statements.used.Given as goal

abbrev pub invariant-loop-rest : goal.invariant-loop-rest
invariant-loop-rest l = (sort : StatementSort) (q : List ℕ) →
    (has_name l.set q (sort_code sort) 0 || list_any (λ s. has_name l.reached s.policy 0 0 && names_it sort q s.form) (plain_statements l.rest))
    ≡ list_any (λ s. has_name l.reached s.policy 0 0 && names_it sort q s.form) (plain_statements l.statements)

abbrev pub decreases-loop-rest : goal.decreases-loop-rest
decreases-loop-rest l = length l.rest
