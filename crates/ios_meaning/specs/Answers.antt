-- What the lists of a tree answer on one route, found in one walk over the tree.
use Rattle.std.specs.Prelude.{◌≡◌, ℕ, Bool, true, false, ◌&&◌, nat_lt, List, [], ◌∷◌, Option, Some, None, bytes_eq, unwrap_or}
use Rattle.std.specs.Option.{option_map_or}
use Rattle.name_maps.specs.Under.{under, first_of}
use Rattle.name_maps.specs.declared.map.NameMap.{NameMap}
use Rattle.route_types.specs.Address.{PrefixParts, width, same_family}
use Rattle.route_types.specs.declared.address.Family.{Family}
use Rattle.route_types.specs.declared.community.Community.{Community}
use Rattle.route_types.specs.declared.route.NextHop.{NextHop as Hop}
use Rattle.route_types.specs.declared.route.NextHop.TheVariants.{At, Own}
use Rattle.prefix_sets.specs.Range.{in_range}
use Rattle.prefix_sets.specs.FirstMatch.{first_match}
use Rattle.community_sets.specs.Tests.{test_holds, list_answers}
use Rattle.path_patterns.specs.Finds.{finds_in}
use Rattle.ios_tree.specs.declared.item.PrefixListEntry.{PrefixListEntry}
use Rattle.ios_tree.specs.declared.item.IosForm.{IosForm}
use Rattle.ios_tree.specs.declared.item.IosForm.TheVariants.{PrefixEntry as OfPrefixList, CommunityEntry as OfCommunityList, PathEntry as OfPathList}
use Rattle.ios_tree.specs.declared.item.IosItem.{IosItem}
use Rattle.ios_meaning.specs.Lists.{prefix_list, community_list, test_of, path_list, path_answers}
use Rattle.ios_meaning.specs.declared.prefix_answers.Deciding.{Deciding}
use Rattle.ios_meaning.specs.declared.answers.Answers.{Answers}

-- what a map holds under the name of a list
abbrev pub held_at : {X : Type 0} → NameMap X → List ℕ → Option X
held_at m list = under m.entries list

-- ---- prefix lists

-- an entry that holds comes before the one that decided so far: of equal numbers the first in the text stays
abbrev pub comes_first : PrefixListEntry → Option Deciding → Bool
comes_first e None = true
comes_first e (Some d) = nat_lt e.number d.number

-- the one of the two that decides
abbrev pub lower : PrefixListEntry → Option Deciding → Option Deciding
lower e found = elim (comes_first e found) [ true ↦ Some (record { number = e.number; permit = e.entry.permit }) | false ↦ found ]

-- the entry that decides behind one more item, for the list of this name
abbrev pub decided_by : PrefixParts → List ℕ → IosForm → Option Deciding → Option Deciding
decided_by p list (OfPrefixList e) found = elim (in_range e.entry.range p) [
  | true ↦ elim (bytes_eq list e.list) [ true ↦ lower e found | false ↦ found ]
  | false ↦ found
]
decided_by p list _ found = found

-- the entry that decides behind these items, one having been found before them or not
unfoldable pub decided_from : PrefixParts → List ℕ → Option Deciding → List IosItem → Option Deciding
decided_from p list found [] = found
decided_from p list found (i ∷ is) = decided_from p list (decided_by p list i.form found) is

-- the answer under the name of a list; where no entry decides it is no
abbrev pub permits_at : NameMap Deciding → List ℕ → Bool
permits_at m list = option_map_or (λ d. d.permit) (held_at m list) false

-- ---- community lists

-- the answer behind one more item, for the list of this name
abbrev pub answered_by : Bool → List Community → List ℕ → IosForm → Option Bool → Option Bool
answered_by exact cs list (OfCommunityList e) found = elim (test_holds (test_of exact e.shape) cs) [
  | true ↦ elim (bytes_eq list e.list) [ true ↦ first_of found e.permit | false ↦ found ]
  | false ↦ found
]
answered_by exact cs list _ found = found

-- the answer behind these items, one having been found before them or not
unfoldable pub answered_from : Bool → List Community → List ℕ → Option Bool → List IosItem → Option Bool
answered_from exact cs list found [] = found
answered_from exact cs list found (i ∷ is) = answered_from exact cs list (answered_by exact cs list i.form found) is

-- the answer under the name of a list; where no entry holds it is no
abbrev pub answers_at : NameMap Bool → List ℕ → Bool
answers_at m list = unwrap_or (held_at m list) false

-- ---- path lists

-- the answer behind one more item, for the list of this name
abbrev pub path_answered_by : List ℕ → List ℕ → IosForm → Option Bool → Option Bool
path_answered_by path list (OfPathList e) found = elim (finds_in e.pattern path) [
  | true ↦ elim (bytes_eq list e.list) [ true ↦ first_of found e.permit | false ↦ found ]
  | false ↦ found
]
path_answered_by path list _ found = found

-- the answer behind these items, one having been found before them or not
unfoldable pub path_answered_from : List ℕ → List ℕ → Option Bool → List IosItem → Option Bool
path_answered_from path list found [] = found
path_answered_from path list found (i ∷ is) = path_answered_from path list (path_answered_by path list i.form found) is

-- ---- all lists

-- the map has the answers of the prefix lists on this prefix
abbrev pub ArePrefixAnswers : List IosItem → PrefixParts → NameMap Deciding → Type 0
ArePrefixAnswers all p m = (family : Family) (list : List ℕ) → (same_family family p.address.family && permits_at m list) ≡ first_match (prefix_list family list all) p

-- the map has their answers on this next hop
abbrev pub AreNextHopAnswers : List IosItem → Hop → NameMap Deciding → Type 0
AreNextHopAnswers all (At a) m = ArePrefixAnswers all (record { address = a; length = width a.family }) m
AreNextHopAnswers all Own m = Unit {0}

-- the map has the answers of the community lists on these communities
abbrev pub AreCommunityAnswers : List IosItem → Bool → List Community → NameMap Bool → Type 0
AreCommunityAnswers all exact cs m = (list : List ℕ) → answers_at m list ≡ list_answers (community_list exact list all) cs

-- the map has the answers of the path lists on this path
abbrev pub ArePathAnswers : List IosItem → List ℕ → NameMap Bool → Type 0
ArePathAnswers all path m = (list : List ℕ) → answers_at m list ≡ path_answers (path_list list all) path

-- the maps have the answers of the lists of the tree on the route
pub record AreAnswers (a : Answers) : Type 0 where
  pub on_prefix : ArePrefixAnswers a.items.now a.route.now.prefix a.prefix_lists
  pub on_next_hop : AreNextHopAnswers a.items.now a.route.now.next_hop a.next_hop_lists
  pub on_communities : AreCommunityAnswers a.items.now false a.route.now.communities a.community_lists
  pub on_path : ArePathAnswers a.items.now a.route.now.path a.path_lists
  pub exactly : AreCommunityAnswers a.items.now true a.route.now.communities a.exact_lists
