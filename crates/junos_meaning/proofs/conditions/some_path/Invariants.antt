use Rattle.std.proofs.Common.{◌≡◌, length}
use Rattle.std.specs.List.{list_any}
use Rattle.junos_reader.specs.Facts.{forms_of}
use Rattle.junos_meaning.specs.Conditions.{pattern_holds}
use Rattle.junos_meaning.specs.Sets.{path_pattern}
use Rattle.junos_meaning.proofs.conditions.some_path.Given as goal

abbrev pub decreases-loop-rest : goal.decreases-loop-rest
decreases-loop-rest l = length l.rest

abbrev pub invariant-loop-rest : goal.invariant-loop-rest
invariant-loop-rest l = list_any (λ name. pattern_holds (path_pattern (forms_of l.world.items.now) name) l.path) l.rest ≡ list_any (λ name. pattern_holds (path_pattern (forms_of l.world.items.now) name) l.path) l.names
