use Rattle.std.proofs.Common.{◌≡◌, ◌++◌, ◌∷◌, flat_map, length}
use Rattle.aspath_text.specs.JunosText.{range_text}
use Rattle.aspath_text.proofs.junos_print.push_barred.Given as goal

abbrev pub invariant-loop-rest : goal.invariant-loop-rest
invariant-loop-rest l = l.out.items ++ flat_map (λ r. 124 ∷ range_text r) l.rest ≡ l.initial.out.items ++ flat_map (λ r. 124 ∷ range_text r) l.fn.ranges

abbrev pub decreases-loop-rest : goal.decreases-loop-rest
decreases-loop-rest l = length l.rest
