use Rattle.std.proofs.Common.{◌≡◌, length}
use Rattle.junos_reader.specs.Facts.{forms_of}
use Rattle.junos_meaning.specs.Sets.{members}
use Rattle.junos_meaning.specs.Conditions.{is_within}
use Rattle.junos_meaning.proofs.lists.is_within.Given as goal

abbrev pub decreases-loop-rest : goal.decreases-loop-rest
decreases-loop-rest l = length l.rest

abbrev pub invariant-loop-rest : goal.invariant-loop-rest
invariant-loop-rest l = is_within (members (forms_of l.rest)) l.prefix ≡ is_within (members (forms_of l.items)) l.prefix
