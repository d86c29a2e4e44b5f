use Rattle.std.proofs.Common.{◌≡◌, ◌||◌, ℕ, List, length}
use Rattle.std.specs.List.{list_any}
use Rattle.policy_text.specs.NameSets.{has_name}
use Rattle.rpl_reader.specs.Possible.{gives_wide, gives_length}
use Rattle.rpl_reader.proofs.possible.possible_by.Given as goal

abbrev pub invariant-loop-rest : goal.invariant-loop-rest
invariant-loop-rest l = record {
  wide : (q : List ℕ) (s n : ℕ) → (list_any (gives_wide l.arguments q s n) l.rest || has_name l.possible.wide q s n) ≡ list_any (gives_wide l.arguments q s n) l.found;
  lengths : (q : List ℕ) (s n : ℕ) → (list_any (gives_length l.arguments q s n) l.rest || has_name l.possible.lengths q s n) ≡ list_any (gives_length l.arguments q s n) l.found;
}

abbrev pub decreases-loop-rest : goal.decreases-loop-rest
decreases-loop-rest l = length l.rest
