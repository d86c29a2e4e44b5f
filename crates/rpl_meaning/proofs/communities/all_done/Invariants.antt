use Rattle.std.proofs.Common.{◌≡◌, length}
use Rattle.route_types.specs.Address.{PrefixParts}
use Rattle.route_drafts.specs.Drafts.{route_of}
use Rattle.rpl_effects.specs.Changes.{all_done}
use Rattle.rpl_meaning.specs.Communities.{stepped}
use Rattle.rpl_meaning.proofs.communities.all_done.Given as goal

abbrev pub decreases-loop-rest : goal.decreases-loop-rest
decreases-loop-rest l = length l.rest

abbrev pub invariant-loop-rest : goal.invariant-loop-rest
invariant-loop-rest l =
    (p : PrefixParts) → record (route_of p l.draft) { communities = all_done stepped l.rest (route_of p l.draft).communities } ≡ record (route_of p l.fn.draft) { communities = all_done stepped l.steps (route_of p l.fn.draft).communities }
