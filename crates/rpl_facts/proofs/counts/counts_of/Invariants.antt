use Rattle.std.proofs.Common.{◌≡◌, ◌||◌, ℕ, List, length}
use Rattle.std.specs.List.{list_any}
use Rattle.name_maps.specs.Under.{under}
use Rattle.rpl_facts.specs.Counts.{has_other}
use Rattle.rpl_facts.specs.Blocks.{takes_other}
use Rattle.rpl_facts.proofs.counts.counts_of.Given as goal

abbrev pub invariant-loop-rest : goal.invariant-loop-rest
invariant-loop-rest l = (q : List ℕ) (n : ℕ) → (has_other (under l.counts.entries q) n || list_any (λ i. takes_other q n i.form) l.rest) ≡ list_any (λ i. takes_other q n i.form) l.items

abbrev pub decreases-loop-rest : goal.decreases-loop-rest
decreases-loop-rest l = length l.rest
