use Rattle.std.proofs.Common.{◌<◌, length}
use Rattle.settled_growth.proofs.lists.list.Given as goal

abbrev pub invariant-loop-number : goal.invariant-loop-number
invariant-loop-number l = l.node < length l.core
