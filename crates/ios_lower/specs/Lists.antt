-- The lists of a tree as the code finds them: in a walk over all entries of a sort, put under the names of the lists.
use Rattle.std.specs.Prelude.{◌≡◌, ℕ, true, false, List, [], ◌∷◌, bytes_eq, map}
use Rattle.std.specs.List.{AllByRecursion}
use Rattle.route_types.specs.Address.{same_family}
use Rattle.route_types.specs.declared.address.Family.{Family}
use Rattle.route_types.specs.declared.address.Family.TheVariants.{V4, V6}
use Rattle.prefix_sets.specs.declared.list.PrefixEntry.{PrefixEntry}
use Rattle.ios_tree.specs.Tree.{family_of}
use Rattle.ios_tree.specs.declared.item.PrefixListEntry.{PrefixListEntry}
use Rattle.ios_tree.specs.declared.item.IosForm.{IosForm}
use Rattle.ios_tree.specs.declared.item.IosForm.TheVariants.{PrefixEntry as OfPrefixList}
use Rattle.ios_tree.specs.declared.item.IosItem.{IosItem}
use Rattle.ios_meaning.specs.Lists.{prefix_list, path_list}
use Rattle.ios_meaning.specs.Drafts.{entries_named}
use Rattle.ios_lower.specs.Atoms.{path_entry_of}
use Rattle.ios_lower.specs.AtomSteps.{IsMatched}
use Rattle.ios_lower.specs.Deletions.{AreTaken}
use Rattle.ios_lower.specs.Named.{under, IfUnder, entries_under}
use Rattle.ios_lower.specs.declared.lists.Lists.{Lists}
use Rattle.ios_lower.specs.declared.prefix_lists.Numbered.{Numbered}

-- an entry behind its number, which it is sorted by
abbrev pub numbered : Numbered → PrefixListEntry
numbered e = record e.entry.now { number = e.number }

-- an item as an entry of a prefix list of the family, before those behind it
abbrev pub family_entry_from : Family → IosForm → List PrefixListEntry → List PrefixListEntry
family_entry_from family (OfPrefixList e) rest = elim (same_family family (family_of e)) [ true ↦ e ∷ rest | false ↦ rest ]
family_entry_from family _ rest = rest

-- the entries of all prefix lists of the family, in text order
abbrev pub family_entries : Family → List IosItem → List PrefixListEntry
family_entries family [] = []
family_entries family (i ∷ is) = family_entry_from family i.form (family_entries family is)

-- what those of the entries hold that are of the list of this name
abbrev pub listed : List ℕ → List PrefixListEntry → List PrefixEntry
listed list [] = []
listed list (e ∷ es) = elim (bytes_eq list e.list) [ true ↦ e.entry ∷ listed list es | false ↦ listed list es ]

-- under each name stands the list of the name; what deletes by it is there, if it has been asked for
pub record AreLists (l : Lists) : Type 0 where
  pub of_v4 : (q : List ℕ) → entries_under l.of_v4 q ≡ prefix_list V4 q l.items.now
  pub of_v6 : (q : List ℕ) → entries_under l.of_v6 q ≡ prefix_list V6 q l.items.now
  pub of_communities : (q : List ℕ) → entries_under l.of_communities q ≡ entries_named q l.items.now
  pub of_paths : (q : List ℕ) → under l.of_paths q ≡ map path_entry_of (path_list q l.items.now)
  pub matched : (q : List ℕ) → AllByRecursion IsMatched (path_list q l.items.now)
  pub taken : (q : List ℕ) → IfUnder (AreTaken (entries_under l.of_communities q)) l.taken q
