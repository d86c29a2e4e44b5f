use Rattle.std.proofs.Common.{◌≡◌, [], length}
use Rattle.policy_text.specs.Phrases.{each_onto}
use Rattle.aspath_text.specs.JunosRead.{member_in, members_of}
use Rattle.aspath_text.proofs.junos_read.each_member.Given as goal

abbrev pub invariant-loop-front : goal.invariant-loop-front
invariant-loop-front l = each_onto member_in l.ranges (members_of l.rest) ≡ each_onto member_in [] (members_of l.text)

abbrev pub decreases-loop-front : goal.decreases-loop-front
decreases-loop-front l = length l.rest
