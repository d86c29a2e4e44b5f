use Rattle.std.proofs.Common.{◌≡◌, length}
use Rattle.text_words.specs.Pieces.{texts}
use Rattle.route_types.specs.Words.{community_in}
use Rattle.route_types.specs.RouteLines.{each_in}
use Rattle.route_types.proofs.Found.{behind_found}
use Rattle.route_types.proofs.route_text.communities_in.Given as goal

abbrev pub invariant-loop-rest : goal.invariant-loop-rest
invariant-loop-rest l = behind_found l.communities.items (each_in community_in (texts l.rest)) ≡ each_in community_in (texts l.words)

abbrev pub decreases-loop-rest : goal.decreases-loop-rest
decreases-loop-rest l = length l.rest
