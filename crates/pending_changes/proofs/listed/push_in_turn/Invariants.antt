use Rattle.std.proofs.Common.{◌≡◌, ◌++◌, map, length}
use Rattle.route_types.specs.declared.change.Change.TheVariants.{Prepend}
use Rattle.pending_changes.proofs.listed.push_in_turn.Given as goal

abbrev pub invariant-loop-rest : goal.invariant-loop-rest
invariant-loop-rest l = l.changes ++ map Prepend l.rest ≡ l.initial.changes ++ map Prepend l.numbers

abbrev pub decreases-loop-rest : goal.decreases-loop-rest
decreases-loop-rest l = length l.rest
