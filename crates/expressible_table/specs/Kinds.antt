-- The kinds of the lines of a route-map (Cisco IOS IP Routing: BGP command reference, 'match community', 'set comm-list
-- delete', 'set origin' and others; Protocol-Independent command reference, 'match ip next-hop', 'continue').
use Rattle.std.specs.Prelude.{ℕ, Bool, true, false, ◌&&◌, not, ◌==◌, List, Option, Some, None, bytes_eq}
use Rattle.std.specs.List.{list_any}
use Rattle.route_types.specs.Address.{width}
use Rattle.route_types.specs.declared.address.Family.{Family}
use Rattle.route_types.specs.declared.route.Origin.{Origin}
use Rattle.route_types.specs.declared.route.Origin.TheVariants.{Igp, Egp, Incomplete}
use Rattle.ios_tree.specs.Tree.{is_of_list}
use Rattle.ios_tree.specs.declared.item.IosForm.{IosForm}
use Rattle.ios_tree.specs.declared.item.IosForm.TheVariants.{PrefixEntry, CommunityEntry}
use Rattle.ios_tree.specs.declared.item.IosItem.{IosItem}
use Rattle.ios_tree.specs.declared.item.PrefixMatch.{PrefixMatch}
use Rattle.ios_tree.specs.declared.item.MapLine.{MapLine}
use Rattle.ios_tree.specs.declared.item.MapLine.TheVariants.{MatchPrefix, MatchNextHop, MatchCommunity, MatchPath, MatchMetric, SetLocalPreference as LineLocalPreference, SetMetric, SetWeight as LineWeight, SetPrepend, SetOrigin as LineOrigin, SetNextHop as LineNextHop, SetCommunity, DeleteCommunities, Continue, Description}
use Rattle.expressible_table.specs.declared.kind.Kind.{Kind}
use Rattle.expressible_table.specs.declared.kind.Kind.TheVariants.{Flow, PrefixTest, NextHopAddressTest, NextHopRangeTest, PathTest, CommunityTest, CommunityRange, ExactMatch, MedEqualTest, SetLocalPreference, SetMed, SetWeight, SetOrigin, SetOriginEgp, SetNextHop, Prepend, CommunitySet, CommunityDelete}

-- ---- lists

-- the form is an entry of this prefix list whose prefix isn't of full length
abbrev pub is_short : Family → List ℕ → IosForm → Bool
is_short family list (PrefixEntry e) = is_of_list family list e && not (e.entry.range.prefix.length == width family)
is_short family list _ = false

-- the prefix list has such an entry
abbrev pub has_short : List IosItem → Family → List ℕ → Bool
has_short all family list = list_any (λ i. is_short family list i.form) all

-- the form is an entry of this community list that denies
abbrev pub is_deny : List ℕ → IosForm → Bool
is_deny list (CommunityEntry e) = bytes_eq list e.list && not e.permit
is_deny list _ = false

-- the community list has such an entry
abbrev pub has_deny : List IosItem → List ℕ → Bool
has_deny all list = list_any (λ i. is_deny list i.form) all

-- ---- lines

-- a test of the next hop: each entry of each of its lists is of full length, or some entry isn't
abbrev pub hop_kind : List IosItem → PrefixMatch → Kind
hop_kind all m = elim (list_any (has_short all m.family) m.lists) [ true ↦ NextHopRangeTest | false ↦ NextHopAddressTest ]

-- a test of communities: with `exact-match`, or without
abbrev pub community_kind : Bool → Kind
community_kind true = ExactMatch
community_kind false = CommunityTest

-- an origin that is set
abbrev pub origin_kind : Origin → Kind
origin_kind Igp = SetOrigin
origin_kind Egp = SetOriginEgp
origin_kind Incomplete = SetOrigin

-- a deletion: by a list that has an entry that denies, or by another one
abbrev pub deletion_kind : List IosItem → List ℕ → Kind
deletion_kind all list = elim (has_deny all list) [ true ↦ CommunityRange | false ↦ CommunityDelete ]

-- the kind of a line; a description is no construct
abbrev pub kind_of : List IosItem → MapLine → Option Kind
kind_of all (MatchPrefix m) = Some PrefixTest
kind_of all (MatchNextHop m) = Some (hop_kind all m)
kind_of all (MatchCommunity m) = Some (community_kind m.exact)
kind_of all (MatchPath m) = Some PathTest
kind_of all (MatchMetric ns) = Some MedEqualTest
kind_of all (LineLocalPreference n) = Some SetLocalPreference
kind_of all (SetMetric n) = Some SetMed
kind_of all (LineWeight n) = Some SetWeight
kind_of all (SetPrepend ns) = Some Prepend
kind_of all (LineOrigin o) = Some (origin_kind o)
kind_of all (LineNextHop a) = Some SetNextHop
kind_of all (SetCommunity s) = Some CommunitySet
kind_of all (DeleteCommunities list) = Some (deletion_kind all list)
kind_of all (Continue s) = Some Flow
kind_of all Description = None
