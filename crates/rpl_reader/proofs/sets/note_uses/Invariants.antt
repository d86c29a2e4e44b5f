use Rattle.std.proofs.Common.{◌≡◌, ◌||◌, ℕ, List, length}
use Rattle.std.specs.List.{list_any}
use Rattle.policy_text.specs.NameSets.{has_name}
use Rattle.rpl_facts.specs.Used.{uses_in}
use Rattle.rpl_reader.specs.Sets.{names}
use Rattle.rpl_reader.proofs.sets.note_uses.Given as goal

abbrev pub invariant-loop-rest : goal.invariant-loop-rest
invariant-loop-rest l = (q : List ℕ) (s n : ℕ) → (list_any (names q s n) (uses_in l.rest) || has_name l.sets q s n) ≡ (list_any (names q s n) (uses_in l.uses) || has_name l.fn.sets q s n)

abbrev pub decreases-loop-rest : goal.decreases-loop-rest
decreases-loop-rest l = length l.rest
