-- What statements do with the communities of a route, by where the elements of their sets stand.
use Rattle.std.specs.Prelude.{Bool, true, false, not, List, [], ◌++◌, filter, map}
use Rattle.route_types.specs.Community.{RectParts, fits, set_of}
use Rattle.route_types.specs.Sets.{fits_some}
use Rattle.route_types.specs.declared.community.Community.{Community}
use Rattle.rpl_tree.specs.Tree.{forms}
use Rattle.rpl_meaning.specs.Sets.{elements, community_in}
use Rattle.rpl_meaning.specs.Meaning.{community_of}
use Rattle.rpl_meaning.specs.declared.communities.Elements.{Elements}
use Rattle.rpl_meaning.specs.declared.communities.Elements.TheVariants.{Below, Listed}
use Rattle.rpl_meaning.specs.declared.communities.CommunityStep.{CommunityStep}
use Rattle.rpl_meaning.specs.declared.communities.CommunityStep.TheVariants.{Add, Replace, Delete}

-- the rectangles that elements are
abbrev pub rects_in : Elements → List RectParts
rects_in (Below items) = elements community_in (forms items.now)
rects_in (Listed rects) = rects.now

-- the communities of these added, or in the place of all others
abbrev pub set_again : Bool → List RectParts → List Community → List Community
set_again additive rects set = set_of (elim additive [ true ↦ set | false ↦ [] ] ++ map community_of rects)

-- those that fit none of these
abbrev pub unfitted_by : List RectParts → List Community → List Community
unfitted_by rects set = filter (λ c. not (fits_some fits rects c)) set

-- the communities behind a step
abbrev pub stepped : CommunityStep → List Community → List Community
stepped (Add es) set = set_again true (rects_in es) set
stepped (Replace es) set = set_again false (rects_in es) set
stepped (Delete es) set = unfitted_by (rects_in es) set
