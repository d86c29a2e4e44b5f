use Rattle.std.proofs.Common.{◌≡◌, ◌||◌, ℕ, List, length, false}
use Rattle.std.specs.List.{list_any}
use Rattle.policy_text.specs.NameSets.{has_name}
use Rattle.ios_reader.specs.Entries.{lines_of}
use Rattle.ios_reader.specs.Lines.{names_list}
use Rattle.ios_reader.proofs.names.named_lists.Given as goal

abbrev pub invariant-loop-rest : goal.invariant-loop-rest
invariant-loop-rest l = (q : List ℕ) (s n : ℕ) →
    (has_name l.names q s n || list_any (names_list q s n) (lines_of l.policy l.inside l.rest)) ≡ list_any (names_list q s n) (lines_of l.policy false l.items)

abbrev pub decreases-loop-rest : goal.decreases-loop-rest
decreases-loop-rest l = length l.rest
