use Rattle.std.proofs.Common.{◌≡◌, length}
use Rattle.policy_text.specs.Phrases.{each_onto}
use Rattle.aspath_text.specs.IosRead.{branch_in}
use Rattle.aspath_text.specs.IosWalk.{parts_behind}
use Rattle.aspath_text.proofs.ios_read.later_branches.Given as goal

abbrev pub invariant-loop-part : goal.invariant-loop-part
invariant-loop-part l = each_onto branch_in l.found (parts_behind 124 l.rest) ≡ each_onto branch_in l.fn.before (parts_behind 124 l.text)

abbrev pub decreases-loop-part : goal.decreases-loop-part
decreases-loop-part l = length l.rest
