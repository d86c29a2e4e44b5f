use Rattle.std.proofs.Common.{ℕ, ◌++◌, ◌↔◌, List, map, length}
use Rattle.std.specs.List.{AllByRecursion}
use Rattle.path_patterns.specs.Items.{IsPath, Taken, takes_of}
use Rattle.path_patterns.specs.JunosItems.{IsWritable}
use Rattle.path_patterns.proofs.junos_items.written.Given as goal

abbrev pub invariant-loop-rest : goal.invariant-loop-rest
invariant-loop-rest l =
    record { writable : AllByRecursion IsWritable l.found; same : (path : List ℕ) → IsPath path → Taken (map takes_of (l.found ++ l.rest)) path ↔ Taken (map takes_of l.fn.items) path }

abbrev pub decreases-loop-rest : goal.decreases-loop-rest
decreases-loop-rest l = length l.rest
