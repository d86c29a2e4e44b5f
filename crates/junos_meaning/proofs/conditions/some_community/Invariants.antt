use Rattle.std.proofs.Common.{◌≡◌, length}
use Rattle.std.specs.List.{list_any}
use Rattle.route_types.specs.Community.{set_of}
use Rattle.community_sets.specs.Tests.{all_fitted}
use Rattle.junos_reader.specs.Facts.{forms_of}
use Rattle.junos_meaning.specs.Sets.{community_members}
use Rattle.junos_meaning.proofs.conditions.some_community.Given as goal

abbrev pub decreases-loop-rest : goal.decreases-loop-rest
decreases-loop-rest l = length l.rest

abbrev pub invariant-loop-rest : goal.invariant-loop-rest
invariant-loop-rest l = list_any (λ name. all_fitted (community_members (forms_of l.world.items.now) name) (set_of l.communities)) l.rest ≡ list_any (λ name. all_fitted (community_members (forms_of l.world.items.now) name) (set_of l.communities)) l.names
