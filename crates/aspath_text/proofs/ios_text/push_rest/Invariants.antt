use Rattle.std.proofs.Common.{◌≡◌, ◌++◌, length}
use Rattle.aspath_text.specs.IosText.{rest_text}
use Rattle.aspath_text.proofs.ios_text.push_rest.Given as goal

abbrev pub invariant-loop-rest : goal.invariant-loop-rest
invariant-loop-rest l = l.out.items ++ rest_text l.behind l.rest ≡ l.initial.out.items ++ rest_text l.initial.behind l.items

abbrev pub decreases-loop-rest : goal.decreases-loop-rest
decreases-loop-rest l = length l.rest
