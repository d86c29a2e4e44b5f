use Rattle.std.proofs.Common.{◌≡◌, ◌++◌, length}
use Rattle.std.specs.Prelude.{map}
use Rattle.junos_tree.specs.Terms.{own_forms, parts}
use Rattle.junos_reader.specs.Facts.{forms_of}
use Rattle.junos_meaning.specs.Regions.{content_of, part_of}
use Rattle.junos_meaning.proofs.regions.actions_of.Given as goal

abbrev pub decreases-loop-rest : goal.decreases-loop-rest
decreases-loop-rest l = length l.rest

abbrev pub invariant-loop-rest : goal.invariant-loop-rest
invariant-loop-rest l = map (λ x. x.now) l.found.items ++ (part_of l.region.unnamed (parts (own_forms (forms_of l.rest)))).actions ≡ (content_of l.region).actions
