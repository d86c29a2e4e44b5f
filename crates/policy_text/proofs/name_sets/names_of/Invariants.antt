use Rattle.std.proofs.Common.{◌≡◌, ◌||◌, ℕ, List, length}
use Rattle.std.specs.List.{list_any}
use Rattle.policy_text.specs.NameSets.{has_name}
use Rattle.policy_text.proofs.name_sets.names_of.Given as goal

abbrev pub invariant-loop-rest : goal.invariant-loop-rest
invariant-loop-rest g l = (q : List ℕ) (s n : ℕ) → (list_any (g.N.NameOf.gives q s n) l.rest || has_name l.names q s n) ≡ list_any (g.N.NameOf.gives q s n) l.items

abbrev pub decreases-loop-rest : goal.decreases-loop-rest
decreases-loop-rest g l = length l.rest
