use Rattle.std.proofs.Common.{◌≡◌, ◌++◌, length}
use Rattle.std.specs.Prelude.{map}
use Rattle.ios_lower.specs.AtomSteps.{community_entry_of}
use Rattle.ios_lower.proofs.atoms.community_entries.Given as goal

abbrev pub invariant-loop-rest : goal.invariant-loop-rest
invariant-loop-rest l = l.found ++ map (community_entry_of l.exact) (map (λ e. e.now) l.rest) ≡ map (community_entry_of l.exact) (map (λ e. e.now) l.entries)

abbrev pub decreases-loop-rest : goal.decreases-loop-rest
decreases-loop-rest l = length l.rest
