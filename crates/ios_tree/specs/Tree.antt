-- The tree of an IOS text: which statements are policy items, under which name they stand, and the
-- form of each. What belongs to no policy is foreign and dropped.
use Rattle.std.specs.Prelude.{ℕ, ◌+◌, ◌-◌, ◌^◌, Bool, true, false, ◌&&◌, ◌||◌, ◌==◌, nat_le, List, [], ◌∷◌, ◌++◌, Option, Some, None, codes, bytes_eq, option_map, slice_get, drop}
use Rattle.std.specs.List.{list_any}
use Rattle.route_types.specs.Address.{same_family}
use Rattle.route_types.specs.declared.address.Family.{Family}
use Rattle.route_types.specs.declared.address.Family.TheVariants.{V4, V6}
use Rattle.text_words.specs.declared.statement.Statement.{Statement}
use Rattle.text_words.specs.IosCut.{ios_cut}
use Rattle.policy_text.specs.Names.{or_else}
use Rattle.policy_text.specs.Phrases.{texts}
use Rattle.ios_tree.specs.Names.{list_name}
use Rattle.ios_tree.specs.Forms.{prefix_list_in, community_list_in, path_entry_in, map_header_in, line_in}
use Rattle.ios_tree.specs.declared.item.ItemSort.{ItemSort}
use Rattle.ios_tree.specs.declared.item.ItemSort.TheVariants.{PrefixList, CommunityList, PathList, Map, Line}
use Rattle.ios_tree.specs.declared.item.IosForm.{IosForm}
use Rattle.ios_tree.specs.declared.item.IosForm.TheVariants.{PrefixEntry, Other}
use Rattle.ios_tree.specs.declared.item.IosForm.TheVariants.{Line as OfLine}
use Rattle.ios_tree.specs.declared.item.PrefixListEntry.{PrefixListEntry}
use Rattle.ios_tree.specs.declared.item.IosItem.{IosItem}

-- the words begin with these
abbrev pub begin_with : List (List ℕ) → List (List ℕ) → Bool
begin_with [] ws = true
begin_with (k ∷ ks) [] = false
begin_with (k ∷ ks) (w ∷ ws) = bytes_eq k w && begin_with ks ws

-- a line of an entry by its first word, also where it stands at depth 0
abbrev pub begins_line : List (List ℕ) → Bool
begins_line [] = false
begins_line (w ∷ ws) = list_any (bytes_eq w) (codes "match" ∷ codes "set" ∷ codes "continue" ∷ codes "description" ∷ [])

-- what a statement at depth 0 is, by its first words; None where it is foreign
abbrev pub sort_at_margin : List (List ℕ) → Option ItemSort
sort_at_margin ws = elim (begin_with (codes "ip" ∷ codes "prefix-list" ∷ []) ws) [
  | true ↦ Some (PrefixList V4)
  | false ↦ elim (begin_with (codes "ip" ∷ codes "community-list" ∷ []) ws) [
    | true ↦ Some CommunityList
    | false ↦ elim (begin_with (codes "ip" ∷ codes "as-path" ∷ codes "access-list" ∷ []) ws) [
      | true ↦ Some PathList
      | false ↦ elim (begin_with (codes "route-map" ∷ []) ws) [
        | true ↦ Some Map
        | false ↦ elim (begins_line ws) [ true ↦ Some Line | false ↦ None ]
      ]
    ]
  ]
]

-- what a statement is, by its depth and its first words
abbrev pub sort_of : ℕ → List (List ℕ) → Option ItemSort
sort_of depth ws = elim (depth == 0) [ true ↦ sort_at_margin ws | false ↦ Some Line ]

-- the word after the keyword, or after `standard` or `expanded`
abbrev pub community_list_word : List (List ℕ) → Option (List ℕ)
community_list_word [] = None
community_list_word (w ∷ ws) = elim (bytes_eq w (codes "standard") || bytes_eq w (codes "expanded")) [ true ↦ slice_get ws 0 | false ↦ Some w ]

-- the name that a policy statement stands under; a line of an entry stands under none of its own
abbrev pub name_under : ItemSort → List (List ℕ) → Option (List ℕ)
name_under (PrefixList family) ws = option_map list_name (slice_get ws 2)
name_under CommunityList ws = option_map list_name (community_list_word (drop 2 ws))
name_under PathList ws = option_map list_name (slice_get ws 3)
name_under Map ws = slice_get ws 1
name_under Line ws = None

-- the known form of a statement of this sort, if it has one
abbrev pub known_form : ItemSort → List (List ℕ) → Option IosForm
known_form (PrefixList V4) ws = prefix_list_in ws
known_form (PrefixList V6) ws = None
known_form CommunityList ws = community_list_in ws
known_form PathList ws = path_entry_in ws
known_form Map ws = map_header_in ws
known_form Line ws = option_map OfLine (line_in ws)

-- the form of a statement of this sort; one that spells no form is an Other under its name
unfoldable pub form_of : ItemSort → List (List ℕ) → IosForm
form_of sort ws = or_else (known_form sort ws) (Other (record { sort = sort; name = name_under sort ws }))

-- whether an entry is open behind an item of this sort
abbrev pub opens : ItemSort → Bool
opens Map = true
opens Line = true
opens _ = false

-- a line belongs to the open entry; where none is open it is foreign
abbrev pub belongs : Bool → ItemSort → Bool
belongs entry_open Line = entry_open
belongs entry_open _ = true

-- the items of statements as they are written, an entry being open before them or not
unfoldable pub items_of : Bool → List Statement → List IosItem
items_of entry_open [] = []
items_of entry_open (s ∷ ss) = elim (sort_of s.depth (texts s.words)) [
  | None ↦ items_of false ss
  | Some sort ↦ elim (belongs entry_open sort) [
    | true ↦ record { form = form_of sort (texts s.words); span = s.span } ∷ items_of (opens sort) ss
    | false ↦ items_of false ss
  ]
]

-- the family of a prefix list entry
abbrev pub family_of : PrefixListEntry → Family
family_of e = e.entry.range.prefix.address.family

-- the entry is of this list
abbrev pub is_of_list : Family → List ℕ → PrefixListEntry → Bool
is_of_list family list e = same_family family (family_of e) && bytes_eq list e.list

-- the greater of two numbers
abbrev pub greater : ℕ → ℕ → ℕ
greater m n = elim (nat_le m n) [ true ↦ n | false ↦ m ]

-- the greater of the number of a form that is an entry of this list and of another number
abbrev pub greatest_with : Family → List ℕ → IosForm → ℕ → ℕ
greatest_with family list (PrefixEntry e) rest = elim (is_of_list family list e) [ true ↦ greater e.number rest | false ↦ rest ]
greatest_with family list _ rest = rest

-- the greatest number that the entries of a list have among these items; 0 where it has none
abbrev pub greatest_number : Family → List ℕ → List IosItem → ℕ
greatest_number family list [] = 0
greatest_number family list (i ∷ is) = greatest_with family list i.form (greatest_number family list is)

-- an entry with this number, if a number may be so great; else a statement of no form
abbrev pub entry_with_number : PrefixListEntry → ℕ → IosForm
entry_with_number e n = elim (nat_le n (2 ^ 64 - 1)) [
  | true ↦ PrefixEntry (record e { number = n })
  | false ↦ Other (record { sort = PrefixList (family_of e); name = Some e.list })
]

-- a form with these items before it: a prefix list entry whose number isn't written gets 5 more than the
-- greatest that its list has so far
abbrev pub numbered : List IosItem → IosForm → IosForm
numbered before (PrefixEntry e) = elim e.has_seq [
  | true ↦ PrefixEntry e
  | false ↦ entry_with_number e (greatest_number (family_of e) e.list before + 5)
]
numbered before form = form

-- the item with its number
abbrev pub numbered_item : List IosItem → IosItem → IosItem
numbered_item before i = record { form = numbered before i.form; span = i.span }

-- the items with their numbers, behind those that have them
unfoldable pub numbered_from : List IosItem → List IosItem → List IosItem
numbered_from before [] = []
numbered_from before (i ∷ is) = numbered_item before i ∷ numbered_from (before ++ numbered_item before i ∷ []) is

-- the tree that an IOS text reads as
unfoldable pub ios_tree : List ℕ → List IosItem
ios_tree text = numbered_from [] (items_of false (ios_cut text))
