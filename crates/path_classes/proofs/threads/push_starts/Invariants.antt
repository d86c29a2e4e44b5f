use Rattle.std.proofs.Common.{◌≡◌, ◌++◌, ◌+◌, length}
use Rattle.path_classes.specs.Threads.{starts_from}
use Rattle.path_classes.proofs.threads.push_starts.Given as goal

abbrev pub invariant-loop-rest : goal.invariant-loop-rest
invariant-loop-rest l = record {
  whole : l.out ++ starts_from l.place l.rest ≡ l.initial.out ++ starts_from 0 l.lines;
  count : l.place + length l.rest ≡ length l.lines;
}

abbrev pub decreases-loop-rest : goal.decreases-loop-rest
decreases-loop-rest l = length l.rest
