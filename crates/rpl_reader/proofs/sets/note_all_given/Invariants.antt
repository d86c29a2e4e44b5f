use Rattle.std.proofs.Common.{◌≡◌, ◌||◌, ℕ, List, length}
use Rattle.std.specs.List.{list_any}
use Rattle.policy_text.specs.NameSets.{has_name}
use Rattle.rpl_reader.specs.Sets.{gives}
use Rattle.rpl_reader.proofs.sets.note_all_given.Given as goal

abbrev pub invariant-loop-rest : goal.invariant-loop-rest
invariant-loop-rest l = (q : List ℕ) (s n : ℕ) → (list_any (gives (λ p. has_name l.reached p 0 0) l.arguments q s n) l.rest || has_name l.sets q s n) ≡ (list_any (gives (λ p. has_name l.reached p 0 0) l.arguments q s n) l.demands || has_name l.fn.sets q s n)

abbrev pub decreases-loop-rest : goal.decreases-loop-rest
decreases-loop-rest l = length l.rest
