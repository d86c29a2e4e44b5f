use Rattle.std.proofs.Common.{◌≡◌, ◌++◌, length}
use Rattle.std.specs.Prelude.{map}
use Rattle.junos_tree.specs.Terms.{own_forms, parts}
use Rattle.junos_reader.specs.Facts.{forms_of}
use Rattle.junos_meaning.specs.Regions.{content_of, named_contents}
use Rattle.junos_meaning.proofs.regions.named_regions.Given as goal

abbrev pub decreases-loop-rest : goal.decreases-loop-rest
decreases-loop-rest l = length l.rest

abbrev pub invariant-loop-rest : goal.invariant-loop-rest
invariant-loop-rest l = map content_of l.found.items ++ named_contents (parts (own_forms (forms_of l.rest))) ≡ named_contents (parts (own_forms (forms_of l.items)))
