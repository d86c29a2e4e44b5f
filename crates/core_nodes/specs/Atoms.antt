-- When a test of a route holds: where one of its values does. A list answers by its first entry that holds.
use Rattle.std.specs.Prelude.{ℕ, Bool, true, false, nat_le, ◌==◌, List, [], ◌∷◌}
use Rattle.std.specs.List.{list_any}
use Rattle.route_types.specs.Route.{RouteParts}
use Rattle.route_types.specs.declared.route.Origin.{Origin}
use Rattle.route_types.specs.declared.route.Origin.TheVariants.{Igp, Egp, Incomplete}
use Rattle.route_types.specs.declared.community.Community.{Community}
use Rattle.prefix_sets.specs.FirstMatch.{first_match, hop_match}
use Rattle.community_sets.specs.Tests.{list_answers}
use Rattle.path_patterns.specs.PathMatches.{path_matches}
use Rattle.core_nodes.specs.declared.atom.PathEntry.{PathEntry}
use Rattle.core_nodes.specs.declared.atom.Atom.{Atom}
use Rattle.core_nodes.specs.declared.atom.Atom.TheVariants.{Prefix, NextHop, Path, Community as Communities, MedOneOf, MedAtLeast, MedAtMost, LocalPreference, Origin as OriginIs, NoCommunity}

-- the first entry whose pattern matches the path permits or denies it; where none matches, it is denied
unfoldable pub path_answers : List PathEntry → List ℕ → Bool
path_answers [] path = false
path_answers (e ∷ es) path = elim (path_matches e.pattern path) [ true ↦ e.permit | false ↦ path_answers es path ]

-- the two origins are one
abbrev pub same_origin : Origin → Origin → Bool
same_origin Igp Igp = true
same_origin Igp Egp = false
same_origin Igp Incomplete = false
same_origin Egp Igp = false
same_origin Egp Egp = true
same_origin Egp Incomplete = false
same_origin Incomplete Igp = false
same_origin Incomplete Egp = false
same_origin Incomplete Incomplete = true

-- the set has no member
abbrev pub is_empty : List Community → Bool
is_empty [] = true
is_empty (c ∷ cs) = false

-- the test holds on the route
abbrev pub atom_holds : Atom → RouteParts → Bool
atom_holds (Prefix lists) r = list_any (λ l. first_match l.entries r.prefix) lists
atom_holds (NextHop lists) r = list_any (λ l. hop_match l.entries r.next_hop) lists
atom_holds (Path lists) r = list_any (λ l. path_answers l.entries r.path) lists
atom_holds (Communities lists) r = list_any (λ l. list_answers l.entries r.communities) lists
atom_holds (MedOneOf numbers) r = list_any (λ n. r.med == n) numbers
atom_holds (MedAtLeast n) r = nat_le n r.med
atom_holds (MedAtMost n) r = nat_le r.med n
atom_holds (LocalPreference n) r = r.local_preference == n
atom_holds (OriginIs o) r = same_origin r.origin o
atom_holds NoCommunity r = is_empty r.communities
