-- Tests as the code finds them, one entry, list and line after the other.
use Rattle.std.specs.Prelude.{◌≡◌, ◌++◌, ◌&&◌, ℕ, Bool, true, List, Option, Some, None, map}
use Rattle.std.specs.List.{list_all, AllByRecursion}
use Rattle.route_types.specs.Route.{RouteParts}
use Rattle.community_sets.specs.declared.list.CommEntry.{CommEntry}
use Rattle.path_patterns.specs.Finds.{finds_in}
use Rattle.path_patterns.specs.Items.{IsPath}
use Rattle.path_patterns.specs.PathMatches.{path_matches}
use Rattle.path_patterns.specs.TokenForm.{token_form}
use Rattle.core_nodes.specs.Atoms.{atom_holds}
use Rattle.core_nodes.specs.declared.atom.Atom.{Atom}
use Rattle.core_nodes.specs.declared.atom.PathEntry.{PathEntry}
use Rattle.ios_tree.specs.declared.item.CommunityListEntry.{CommunityListEntry}
use Rattle.ios_tree.specs.declared.item.PathListEntry.{PathListEntry}
use Rattle.ios_tree.specs.declared.item.IosForm.{IosForm}
use Rattle.ios_tree.specs.declared.item.IosItem.{IosItem}
use Rattle.ios_tree.specs.declared.item.MapLine.{MapLine}
use Rattle.ios_meaning.specs.Lists.{test_of, path_entry_from}
use Rattle.ios_meaning.specs.Meaning.{line_holds}
use Rattle.ios_lower.specs.Atoms.{path_entry_of, atoms_of}
use Rattle.ios_lower.specs.Named.{Listed, under}

-- an entry of a community list, for an exact match or not
abbrev pub community_entry_of : Bool → CommunityListEntry → CommEntry
community_entry_of exact e = record { permit = e.permit; test = test_of exact e.shape }

-- the items of an entry's pattern match the paths in whose text it is found
abbrev pub IsMatched : PathListEntry → Type 0
IsMatched e = (path : List ℕ) → IsPath path → path_matches (token_form e.pattern) path ≡ finds_in e.pattern path

-- an item is put behind those of its list, if it is an entry of a path list
pub record AddsPath (form : IosForm) (old new : Listed PathEntry) : Type 0 where
  pub same : (q : List ℕ) (rest : List PathListEntry) → under new q ++ map path_entry_of rest ≡ under old q ++ map path_entry_of (path_entry_from q form rest)
  pub matched : (q : List ℕ) (rest : List PathListEntry) → AllByRecursion IsMatched rest → AllByRecursion IsMatched (path_entry_from q form rest)

-- what is tested holds, if something is
abbrev pub holds_if : Option Atom → RouteParts → Bool
holds_if (Some a) r = atom_holds a r
holds_if None r = true

-- the atoms of the lines that are not left, and what they hold for
pub record AtomsFound (items : List IosItem) (all left : List MapLine) (found : List Atom) : Type 0 where
  pub same : found ++ atoms_of items left ≡ atoms_of items all
  pub holds : (r : RouteParts) → IsPath r.path → (list_all (λ a. atom_holds a r) found && list_all (line_holds items r) left) ≡ list_all (line_holds items r) all
