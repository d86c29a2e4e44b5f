-- what is counted so far and what the rest adds
use Rattle.std.proofs.Common.{◌≡◌, ◌+◌, ◌≤◌, length}
use Rattle.std.specs.Prelude.{◌==◌, count_by}
use Rattle.policy_program.specs.Lines.{column_behind}
use Rattle.policy_program.proofs.place.place_behind.Given as goal

abbrev pub invariant-loop-rest : goal.invariant-loop-rest
invariant-loop-rest l = record {
  lines : l.line + count_by (λ b. b == 10) l.rest ≡ 1 + count_by (λ b. b == 10) l.text;
  columns : column_behind l.column l.rest ≡ column_behind 1 l.text;
  few_lines : l.line + length l.rest ≤ 1 + length l.text;
  few_columns : l.column + length l.rest ≤ 1 + length l.text;
}

abbrev pub decreases-loop-rest : goal.decreases-loop-rest
decreases-loop-rest l = length l.rest
