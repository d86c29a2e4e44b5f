use Rattle.std.proofs.Common.{◌≡◌, ◌++◌, length}
use Rattle.aspath_text.specs.IosText.{starts_text}
use Rattle.aspath_text.proofs.ios_text.push_starts.Given as goal

abbrev pub invariant-loop-rest : goal.invariant-loop-rest
invariant-loop-rest l = l.out.items ++ starts_text l.rest ≡ l.initial.out.items ++ starts_text l.items

abbrev pub decreases-loop-rest : goal.decreases-loop-rest
decreases-loop-rest l = length l.rest
