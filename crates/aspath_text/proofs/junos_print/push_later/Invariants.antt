use Rattle.std.proofs.Common.{◌≡◌, ◌++◌, ◌∷◌, flat_map, length}
use Rattle.aspath_text.specs.JunosText.{item_text}
use Rattle.aspath_text.proofs.junos_print.push_later.Given as goal

abbrev pub invariant-loop-rest : goal.invariant-loop-rest
invariant-loop-rest l = l.out.items ++ flat_map (λ i. 32 ∷ item_text i) l.rest ≡ l.initial.out.items ++ flat_map (λ i. 32 ∷ item_text i) l.fn.items

abbrev pub decreases-loop-rest : goal.decreases-loop-rest
decreases-loop-rest l = length l.rest
