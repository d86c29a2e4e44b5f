use Rattle.std.proofs.Common.{◌≡◌, ◌++◌, length, map}
use Rattle.rpl_forms.specs.declared.item.RplForm.TheVariants.{Element}
use Rattle.rpl_layout.specs.Forms.{path_elements}
use Rattle.rpl_policies.proofs.blocks.push_texts.Given as goal

abbrev pub invariant-loop-rest : goal.invariant-loop-rest
invariant-loop-rest l = l.out ++ map Element (path_elements l.rest) ≡ l.fn.out ++ map Element (path_elements l.texts)

abbrev pub decreases-loop-rest : goal.decreases-loop-rest
decreases-loop-rest l = length l.rest
