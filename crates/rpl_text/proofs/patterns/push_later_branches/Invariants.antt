use Rattle.std.proofs.Common.{◌≡◌, ◌++◌, ◌∷◌, length, flat_map}
use Rattle.rpl_text.specs.Patterns.{branch_text}
use Rattle.rpl_text.proofs.patterns.push_later_branches.Given as goal

abbrev pub invariant-loop-rest : goal.invariant-loop-rest
invariant-loop-rest l = l.out.items ++ flat_map (λ b. 124 ∷ branch_text b) l.rest ≡ l.initial.out.items ++ flat_map (λ b. 124 ∷ branch_text b) l.branches

abbrev pub decreases-loop-rest : goal.decreases-loop-rest
decreases-loop-rest l = length l.rest
