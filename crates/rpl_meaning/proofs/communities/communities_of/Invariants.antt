use Rattle.std.proofs.Common.{◌≡◌, ◌++◌, length}
use Rattle.std.specs.Prelude.{map}
use Rattle.rpl_meaning.specs.Meaning.{community_of}
use Rattle.rpl_meaning.proofs.communities.communities_of.Given as goal

abbrev pub decreases-loop-rest : goal.decreases-loop-rest
decreases-loop-rest l = length l.rest

abbrev pub invariant-loop-rest : goal.invariant-loop-rest
invariant-loop-rest l = l.found.items ++ map community_of (map (λ r. r.now) l.rest) ≡ map community_of (map (λ r. r.now) l.rects)
