-- What the lines of entries make of the draft of a route.
use Rattle.std.specs.Prelude.{ℕ, Bool, true, false, not, List, [], ◌∷◌, ◌++◌, Vec, map, filter, reverse, bytes_eq}
use Rattle.std.specs.Borrow.{Bor}
use Rattle.std.specs.Option.{option_map_or}
use Rattle.std.specs.BTreeMap.{BTreeMap}
use Rattle.std.specs.declared.alloc.Global.{Global}
use Rattle.name_maps.specs.Under.{under}
use Rattle.route_types.specs.declared.community.Community.{Community}
use Rattle.route_types.specs.declared.route.NextHop.TheVariants.{At}
use Rattle.route_drafts.specs.declared.draft.Draft.{Draft}
use Rattle.community_sets.specs.Tests.{test_holds}
use Rattle.ios_reader.specs.Entries.{Entry}
use Rattle.ios_tree.specs.declared.item.CommunityListEntry.{CommunityListEntry}
use Rattle.ios_tree.specs.declared.item.IosForm.{IosForm}
use Rattle.ios_tree.specs.declared.item.IosForm.TheVariants.{CommunityEntry as OfCommunityList}
use Rattle.ios_tree.specs.declared.item.IosItem.{IosItem}
use Rattle.ios_tree.specs.declared.item.MapLine.{MapLine}
use Rattle.ios_tree.specs.declared.item.MapLine.TheVariants.{SetLocalPreference, SetMetric, SetWeight, SetPrepend, SetOrigin, SetNextHop, SetCommunity, DeleteCommunities}
use Rattle.ios_meaning.specs.Lists.{test_of}
use Rattle.ios_meaning.specs.Meaning.{deletes}
use Rattle.ios_meaning.specs.declared.entries.MapEntry.{MapEntry}

-- ---- entries and lists as the tree lends them

-- an entry of a route-map that borrows its lines
abbrev pub entry_of : MapEntry → Entry
entry_of e = record { number = e.number; permit = e.permit; lines = map (λ l. l.now) e.lines.items }

-- an item as an entry of this community list, before those behind it
abbrev pub entry_named : List ℕ → IosForm → List CommunityListEntry → List CommunityListEntry
entry_named list (OfCommunityList e) rest = elim (bytes_eq list e.list) [ true ↦ e ∷ rest | false ↦ rest ]
entry_named list _ rest = rest

-- the entries of the community list of this name, in text order
abbrev pub entries_named : List ℕ → List IosItem → List CommunityListEntry
entries_named list [] = []
entries_named list (i ∷ is) = entry_named list i.form (entries_named list is)

-- the entries that a map holds under the name of a list
abbrev pub entries_at : BTreeMap (Bor (List ℕ)) (Vec (Bor CommunityListEntry) Global) → List ℕ → List CommunityListEntry
entries_at m list = option_map_or (λ v. map (λ e. e.now) v.items) (under m list) []

-- the answer of entries on a community alone
abbrev pub answers_alone : List CommunityListEntry → Community → Bool
answers_alone [] c = false
answers_alone (e ∷ es) c = elim (test_holds (test_of false e.shape) (c ∷ [])) [ true ↦ e.permit | false ↦ answers_alone es c ]

-- ---- drafts

-- which communities the list of a name takes away
abbrev pub Removes : Type 0
Removes = List ℕ → Community → Bool

-- what the lists of a map take away
abbrev pub removes_by : BTreeMap (Bor (List ℕ)) (Vec (Bor CommunityListEntry) Global) → Removes
removes_by m list c = answers_alone (entries_at m list) c

-- a draft behind a line
abbrev pub draft_by : Removes → MapLine → Draft → Draft
draft_by removes (SetLocalPreference n) d = record d { local_preference = n }
draft_by removes (SetMetric n) d = record d { med = n }
draft_by removes (SetWeight n) d = record d { weight = n }
draft_by removes (SetPrepend ns) d = record d { path = d.path ++ reverse ns }
draft_by removes (SetOrigin o) d = record d { origin = o }
draft_by removes (SetNextHop a) d = record d { next_hop = At a }
draft_by removes (SetCommunity s) d = record d { communities = elim s.additive [ true ↦ d.communities | false ↦ [] ] ++ s.communities }
draft_by removes (DeleteCommunities list) d = record d { communities = filter (λ c. not (removes list c)) d.communities }
draft_by removes _ d = d

-- a draft behind lines
abbrev pub draft_by_lines : Removes → List MapLine → Draft → Draft
draft_by_lines removes [] d = d
draft_by_lines removes (l ∷ ls) d = draft_by_lines removes ls (draft_by removes l d)

-- whether a line deletes, or whether it doesn't
abbrev pub deletes_as : Bool → MapLine → Bool
deletes_as true l = deletes l
deletes_as false l = not (deletes l)

-- a draft behind an entry: the deletions come first
abbrev pub draft_by_entry : Removes → Entry → Draft → Draft
draft_by_entry removes e d = draft_by_lines removes (filter (deletes_as false) e.lines) (draft_by_lines removes (filter (deletes_as true) e.lines) d)

-- a draft behind entries
abbrev pub draft_by_entries : Removes → List Entry → Draft → Draft
draft_by_entries removes [] d = d
draft_by_entries removes (e ∷ es) d = draft_by_entries removes es (draft_by_entry removes e d)
