-- What an item of a tree is, and the name that it stands under.
use Rattle.std.specs.Prelude.{ℕ, Bool, true, false, ◌&&◌, List, Option, Some, None}
use Rattle.route_types.specs.Address.{same_family}
use Rattle.route_types.specs.declared.address.Family.{Family}
use Rattle.policy_text.specs.Names.{is_named}
use Rattle.ios_tree.specs.Tree.{family_of}
use Rattle.ios_tree.specs.declared.item.ItemSort.{ItemSort}
use Rattle.ios_tree.specs.declared.item.ItemSort.TheVariants.{PrefixList, CommunityList, PathList, Map, Line}
use Rattle.ios_tree.specs.declared.item.IosForm.{IosForm}
use Rattle.ios_tree.specs.declared.item.IosForm.TheVariants.{PrefixEntry, PrefixDescription, CommunityEntry, PathEntry, MapHeader, Other}
use Rattle.ios_tree.specs.declared.item.IosForm.TheVariants.{Line as OfLine}
use Rattle.ios_tree.specs.declared.item.IosItem.{IosItem}
use Rattle.ios_tree.specs.declared.item.CommunityShape.{CommunityShape}
use Rattle.ios_tree.specs.declared.item.CommunityShape.TheVariants.{Standard, Expanded}

-- what a form is
abbrev pub sort_of_form : IosForm → ItemSort
sort_of_form (PrefixEntry e) = PrefixList (family_of e)
sort_of_form (PrefixDescription d) = PrefixList d.family
sort_of_form (CommunityEntry e) = CommunityList
sort_of_form (PathEntry e) = PathList
sort_of_form (MapHeader h) = Map
sort_of_form (OfLine l) = Line
sort_of_form (Other o) = o.sort

-- the name that a form stands under
abbrev pub name_of_form : IosForm → Option (List ℕ)
name_of_form (PrefixEntry e) = Some e.list
name_of_form (PrefixDescription d) = Some d.list
name_of_form (CommunityEntry e) = Some e.list
name_of_form (PathEntry e) = Some e.list
name_of_form (MapHeader h) = Some h.map
name_of_form (OfLine l) = None
name_of_form (Other o) = o.name

-- the sort of the lines of an entry
abbrev pub is_line_sort : ItemSort → Bool
is_line_sort Line = true
is_line_sort _ = false

-- the item is a line of an entry
abbrev pub is_line : IosItem → Bool
is_line i = is_line_sort (sort_of_form i.form)

-- the sort of the first lines of entries
abbrev pub is_header_sort : ItemSort → Bool
is_header_sort Map = true
is_header_sort _ = false

-- the item is the first line of an entry of the map of this name, of whatever form
abbrev pub heads : List ℕ → IosItem → Bool
heads name i = is_header_sort (sort_of_form i.form) && is_named name (name_of_form i.form)

-- an item of the prefix lists of a family
abbrev pub is_prefix_sort : Family → ItemSort → Bool
is_prefix_sort family (PrefixList other) = same_family family other
is_prefix_sort family _ = false

-- an item of the community lists
abbrev pub is_community_sort : ItemSort → Bool
is_community_sort CommunityList = true
is_community_sort _ = false

-- an item of the path lists
abbrev pub is_path_sort : ItemSort → Bool
is_path_sort PathList = true
is_path_sort _ = false

-- a description of a list
abbrev pub is_description : IosForm → Bool
is_description (PrefixDescription d) = true
is_description _ = false

-- the entry is one of an expanded list
abbrev pub is_expanded : CommunityShape → Bool
is_expanded (Standard cs) = false
is_expanded (Expanded r) = true
