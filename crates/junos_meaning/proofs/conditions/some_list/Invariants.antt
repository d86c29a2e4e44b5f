use Rattle.std.proofs.Common.{◌≡◌, length}
use Rattle.std.specs.List.{list_any}
use Rattle.junos_reader.specs.Facts.{forms_of}
use Rattle.junos_meaning.specs.Conditions.{is_member}
use Rattle.junos_meaning.specs.Sets.{list_members}
use Rattle.junos_meaning.proofs.conditions.some_list.Given as goal

abbrev pub decreases-loop-rest : goal.decreases-loop-rest
decreases-loop-rest l = length l.rest

abbrev pub invariant-loop-rest : goal.invariant-loop-rest
invariant-loop-rest l = list_any (λ name. is_member (list_members (forms_of l.world.items.now) name) l.world.prefix.now) l.rest ≡ list_any (λ name. is_member (list_members (forms_of l.world.items.now) name) l.world.prefix.now) l.names
