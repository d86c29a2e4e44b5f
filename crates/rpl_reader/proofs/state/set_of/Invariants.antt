use Rattle.std.proofs.Common.{◌≡◌, ◌||◌, ℕ, List, length}
use Rattle.std.specs.Prelude.{bytes_eq}
use Rattle.std.specs.List.{list_any}
use Rattle.policy_text.specs.NameSets.{has_name}
use Rattle.rpl_reader.proofs.state.set_of.Given as goal

abbrev pub invariant-loop-rest : goal.invariant-loop-rest
invariant-loop-rest l = (q : List ℕ) → (has_name l.set q 0 0 || list_any (bytes_eq q) l.rest) ≡ list_any (bytes_eq q) l.names

abbrev pub decreases-loop-rest : goal.decreases-loop-rest
decreases-loop-rest l = length l.rest
