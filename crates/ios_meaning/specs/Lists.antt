-- The lists of a tree by name: prefix lists in order of the numbers of their entries, community lists and
-- path lists in the order of the text (Cisco IOS IP Routing: BGP command reference, 'ip prefix-list', 'ip
-- community-list', 'ip as-path access-list').
use Rattle.std.specs.Prelude.{ℕ, ◌/◌, ◌%◌, ◌^◌, Bool, true, false, List, [], ◌∷◌, bytes_eq, map}
use Rattle.route_types.specs.Community.{RectParts}
use Rattle.route_types.specs.declared.address.Family.{Family}
use Rattle.route_types.specs.declared.community.Community.{Community}
use Rattle.prefix_sets.specs.declared.list.PrefixEntry.{PrefixEntry}
use Rattle.community_sets.specs.declared.list.CommTest.{CommTest}
use Rattle.community_sets.specs.declared.list.CommTest.TheVariants.{AllOf, Exactly}
use Rattle.community_sets.specs.declared.list.CommEntry.{CommEntry}
use Rattle.path_patterns.specs.Finds.{finds_in}
use Rattle.ios_tree.specs.Tree.{is_of_list}
use Rattle.ios_tree.specs.declared.item.CommunityShape.{CommunityShape}
use Rattle.ios_tree.specs.declared.item.CommunityShape.TheVariants.{Standard, Expanded}
use Rattle.ios_tree.specs.declared.item.PathListEntry.{PathListEntry}
use Rattle.ios_tree.specs.declared.item.PrefixListEntry.{PrefixListEntry}
use Rattle.ios_tree.specs.declared.item.IosForm.{IosForm}
use Rattle.ios_tree.specs.declared.item.IosForm.TheVariants.{PrefixEntry as OfPrefixList, CommunityEntry as OfCommunityList, PathEntry as OfPathList}
use Rattle.ios_tree.specs.declared.item.IosItem.{IosItem}
use Rattle.ios_meaning.specs.Order.{in_order}

-- an item as an entry of this prefix list, before those behind it
abbrev pub prefix_entry_from : Family → List ℕ → IosForm → List PrefixListEntry → List PrefixListEntry
prefix_entry_from family list (OfPrefixList e) rest = elim (is_of_list family list e) [ true ↦ e ∷ rest | false ↦ rest ]
prefix_entry_from family list _ rest = rest

-- the entries of a prefix list, in text order
abbrev pub prefix_entries : Family → List ℕ → List IosItem → List PrefixListEntry
prefix_entries family list [] = []
prefix_entries family list (i ∷ is) = prefix_entry_from family list i.form (prefix_entries family list is)

-- a prefix list: its entries in order of their numbers
abbrev pub prefix_list : Family → List ℕ → List IosItem → List PrefixEntry
prefix_list family list all = map (λ e. e.entry) (in_order (λ e. e.number) (prefix_entries family list all))

-- the rectangle of one community
abbrev pub single : Community → RectParts
single c = record { high_least = c.0 / 2 ^ 16; high_most = c.0 / 2 ^ 16; low_least = c.0 % 2 ^ 16; low_most = c.0 % 2 ^ 16 }

-- what an entry of a community list tests; `exact` is `exact-match`, which no expanded list has in profile
abbrev pub test_of : Bool → CommunityShape → CommTest
test_of exact (Standard cs) = elim exact [ true ↦ Exactly cs | false ↦ AllOf (map single cs) ]
test_of exact (Expanded r) = AllOf (r ∷ [])

-- an item as an entry of this community list, before those behind it
abbrev pub community_entry_from : Bool → List ℕ → IosForm → List CommEntry → List CommEntry
community_entry_from exact list (OfCommunityList e) rest = elim (bytes_eq list e.list) [ true ↦ record { permit = e.permit; test = test_of exact e.shape } ∷ rest | false ↦ rest ]
community_entry_from exact list _ rest = rest

-- a community list: its entries in text order
abbrev pub community_list : Bool → List ℕ → List IosItem → List CommEntry
community_list exact list [] = []
community_list exact list (i ∷ is) = community_entry_from exact list i.form (community_list exact list is)

-- an item as an entry of this path list, before those behind it
abbrev pub path_entry_from : List ℕ → IosForm → List PathListEntry → List PathListEntry
path_entry_from list (OfPathList e) rest = elim (bytes_eq list e.list) [ true ↦ e ∷ rest | false ↦ rest ]
path_entry_from list _ rest = rest

-- a path list: its entries in text order
abbrev pub path_list : List ℕ → List IosItem → List PathListEntry
path_list list [] = []
path_list list (i ∷ is) = path_entry_from list i.form (path_list list is)

-- what a path list answers on a path: the first entry whose pattern is found in the text of the path decides,
-- and without one the answer is no
unfoldable pub path_answers : List PathListEntry → List ℕ → Bool
path_answers [] path = false
path_answers (e ∷ es) path = elim (finds_in e.pattern path) [ true ↦ e.permit | false ↦ path_answers es path ]
