use Rattle.std.proofs.Common.{◌≡◌, length}
use Rattle.junos_reader.specs.Facts.{forms_of}
use Rattle.junos_meaning.specs.Sets.{members}
use Rattle.junos_meaning.specs.Conditions.{is_member}
use Rattle.junos_meaning.proofs.lists.is_member.Given as goal

abbrev pub decreases-loop-rest : goal.decreases-loop-rest
decreases-loop-rest l = length l.rest

abbrev pub invariant-loop-rest : goal.invariant-loop-rest
invariant-loop-rest l = is_member (members (forms_of l.rest)) l.prefix ≡ is_member (members (forms_of l.items)) l.prefix
