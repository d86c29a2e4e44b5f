-- What a form is: its sort as a number, the name that it defines, its mark, and its projections.
use Rattle.std.specs.Prelude.{ℕ, Bool, true, false, ◌&&◌, ◌==◌, List, Option, Some, None}
use Rattle.route_types.specs.Address.{width}
use Rattle.policy_text.specs.Names.{is_named}
use Rattle.ios_tree.specs.Sorts.{sort_of_form, name_of_form}
use Rattle.ios_tree.specs.declared.item.ItemSort.{ItemSort}
use Rattle.ios_tree.specs.declared.item.ItemSort.TheVariants.{PrefixList, CommunityList, PathList, Map}
use Rattle.ios_tree.specs.declared.item.ItemSort.TheVariants.{Line as LineSort}
use Rattle.ios_tree.specs.declared.item.IosForm.{IosForm}
use Rattle.ios_tree.specs.declared.item.IosForm.TheVariants.{PrefixEntry, PrefixDescription, CommunityEntry, MapHeader, Line, Other}
use Rattle.ios_tree.specs.declared.item.MapHeader.{MapHeader as Header}
use Rattle.ios_tree.specs.declared.item.MapLine.{MapLine}
use Rattle.ios_tree.specs.declared.item.CommunityShape.{CommunityShape}
use Rattle.ios_tree.specs.declared.item.CommunityShape.TheVariants.{Standard, Expanded}

-- the header that a form is
abbrev pub header_in : IosForm → Option Header
header_in (MapHeader h) = Some h
header_in _ = None

-- the line that a form is
abbrev pub line_in : IosForm → Option MapLine
line_in (Line l) = Some l
line_in _ = None

-- a statement of no form
abbrev pub has_no_form : IosForm → Bool
has_no_form (Other o) = true
has_no_form _ = false

-- the sort of an item as a number; sorts of one number are one
abbrev pub sort_code : ItemSort → ℕ
sort_code (PrefixList family) = width family
sort_code CommunityList = 1
sort_code PathList = 2
sort_code Map = 3
sort_code LineSort = 4

-- whether a community list entry is of a standard list (0) or an expanded one (1)
abbrev pub shape_code : CommunityShape → ℕ
shape_code (Standard cs) = 0
shape_code (Expanded r) = 1

-- what tells an item from the others under its name: the number of an entry; for a community list, whether it is expanded
abbrev pub mark_of : IosForm → Option ℕ
mark_of (PrefixEntry e) = Some e.number
mark_of (CommunityEntry e) = Some (shape_code e.shape)
mark_of (MapHeader h) = Some h.number
mark_of _ = None

-- the name that is there by a form; by a description there is none
abbrev pub defined_name : IosForm → Option (List ℕ)
defined_name (PrefixDescription d) = None
defined_name form = name_of_form form

-- the number is there, and it is this one
abbrev pub is_number : ℕ → Option ℕ → Bool
is_number n None = false
is_number n (Some m) = n == m

-- these are the name, the sort and the number
abbrev pub is_under : List ℕ → ℕ → ℕ → Option (List ℕ) → ℕ → Option ℕ → Bool
is_under name sort number other other_sort other_number = is_number number other_number && (sort == other_sort) && is_named name other

-- the list or map of this name and sort is there by the form; the number is 0
abbrev pub defines : List ℕ → ℕ → ℕ → IosForm → Bool
defines name sort number form = is_under name sort number (defined_name form) (sort_code (sort_of_form form)) (Some 0)

-- the form stands under this name with this sort and this mark
abbrev pub is_marked : List ℕ → ℕ → ℕ → IosForm → Bool
is_marked name sort mark form = is_under name sort mark (name_of_form form) (sort_code (sort_of_form form)) (mark_of form)
