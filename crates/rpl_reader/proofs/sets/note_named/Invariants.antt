use Rattle.std.proofs.Common.{◌≡◌, ◌||◌, ℕ, List, length}
use Rattle.std.specs.List.{list_any}
use Rattle.policy_text.specs.NameSets.{has_name}
use Rattle.rpl_facts.specs.Spoken.{spoken_in}
use Rattle.rpl_reader.specs.Sets.{uses_named}
use Rattle.rpl_reader.proofs.sets.note_named.Given as goal

abbrev pub invariant-loop-rest : goal.invariant-loop-rest
invariant-loop-rest l = (q : List ℕ) (s n : ℕ) → (list_any (uses_named (λ p. has_name l.reached p 0 0) q s n) (spoken_in l.rest) || has_name l.sets q s n) ≡ (list_any (uses_named (λ p. has_name l.reached p 0 0) q s n) (spoken_in l.statements) || has_name l.fn.sets q s n)

abbrev pub decreases-loop-rest : goal.decreases-loop-rest
decreases-loop-rest l = length l.rest
