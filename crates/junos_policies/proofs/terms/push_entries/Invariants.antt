use Rattle.std.proofs.Common.{◌≡◌, length, map}
use Rattle.junos_layout.specs.Terms.{ends_by, condition_lines}
use Rattle.junos_policies.specs.Names.{writing}
use Rattle.junos_policies.specs.Terms.{with_terms}
use Rattle.junos_policies.proofs.terms.push_entries.Given as goal

abbrev pub invariant-loop-rest : goal.invariant-loop-rest
invariant-loop-rest l = with_terms l.out (map (λ e. ends_by (condition_lines (writing l.names) e.condition) e.permit) l.rest) ≡ with_terms l.fn.out (map (λ e. ends_by (condition_lines (writing l.names) e.condition) e.permit) l.entries)

abbrev pub decreases-loop-rest : goal.decreases-loop-rest
decreases-loop-rest l = length l.rest
