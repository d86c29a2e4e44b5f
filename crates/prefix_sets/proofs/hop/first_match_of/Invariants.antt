use Rattle.std.proofs.Common.{◌≡◌, length}
use Rattle.route_types.specs.Address.{full_prefix}
use Rattle.prefix_sets.specs.FirstMatch.{first_match}
use Rattle.prefix_sets.proofs.hop.first_match_of.Given as goal

abbrev pub invariant-loop-rest : goal.invariant-loop-rest
invariant-loop-rest l = first_match l.rest (full_prefix l.address) ≡ first_match l.entries (full_prefix l.address)

abbrev pub decreases-loop-rest : goal.decreases-loop-rest
decreases-loop-rest l = length l.rest
