use Rattle.std.proofs.Common.{◌≡◌, ◌++◌}
use Rattle.std.specs.List.{repeat as repeated}
use Rattle.aspath_text.specs.IosText.{tail_text}
use Rattle.path_patterns.specs.declared.pattern.Repeat.TheVariants.{Maybe}
use Rattle.aspath_text.proofs.ios_text.push_tails.Given as goal

abbrev pub invariant-loop-left : goal.invariant-loop-left
invariant-loop-left l = l.out.items ++ repeated l.left (tail_text l.words Maybe) ≡ l.initial.out.items ++ repeated l.count (tail_text l.words Maybe)

abbrev pub decreases-loop-left : goal.decreases-loop-left
decreases-loop-left l = l.left
