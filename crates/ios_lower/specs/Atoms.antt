-- What the match lines of an entry test (Cisco IOS IP Routing: Protocol-Independent command reference, 'route-map';
-- BGP command reference, 'match community', 'match as-path'), as atoms: each holds the lists that its line names.
use Rattle.std.specs.Prelude.{ℕ, Bool, List, [], ◌∷◌, Option, Some, None, map}
use Rattle.route_types.specs.declared.address.Family.{Family}
use Rattle.prefix_sets.specs.declared.list.PrefixList.{PrefixList}
use Rattle.community_sets.specs.declared.list.CommList.{CommList}
use Rattle.path_patterns.specs.TokenForm.{token_form}
use Rattle.core_nodes.specs.declared.atom.Atom.{Atom}
use Rattle.core_nodes.specs.declared.atom.Atom.TheVariants.{Prefix, NextHop, Path, Community, MedOneOf}
use Rattle.core_nodes.specs.declared.atom.PathEntry.{PathEntry}
use Rattle.core_nodes.specs.declared.atom.PathList.{PathList}
use Rattle.ios_tree.specs.declared.item.IosItem.{IosItem}
use Rattle.ios_tree.specs.declared.item.MapLine.{MapLine}
use Rattle.ios_tree.specs.declared.item.MapLine.TheVariants.{MatchPrefix, MatchNextHop, MatchCommunity, MatchPath, MatchMetric}
use Rattle.ios_tree.specs.declared.item.PathListEntry.{PathListEntry}
use Rattle.ios_meaning.specs.Lists.{prefix_list, community_list, path_list}

-- the prefix list of a name
abbrev pub prefix_list_of : List IosItem → Family → List ℕ → PrefixList
prefix_list_of all family list = record { family = family; entries = prefix_list family list all }

-- the community list of a name
abbrev pub community_list_of : Bool → List IosItem → List ℕ → CommList
community_list_of exact all list = record { entries = community_list exact list all }

-- an entry of a path list, with the items of its pattern
abbrev pub path_entry_of : PathListEntry → PathEntry
path_entry_of e = record { permit = e.permit; pattern = token_form e.pattern }

-- the path list of a name
abbrev pub path_list_of : List IosItem → List ℕ → PathList
path_list_of all list = record { entries = map path_entry_of (path_list list all) }

-- what a line tests, if it tests something
abbrev pub atom_of : List IosItem → MapLine → Option Atom
atom_of all (MatchPrefix m) = Some (Prefix (map (prefix_list_of all m.family) m.lists))
atom_of all (MatchNextHop m) = Some (NextHop (map (prefix_list_of all m.family) m.lists))
atom_of all (MatchCommunity m) = Some (Community (map (community_list_of m.exact all) m.lists))
atom_of all (MatchPath m) = Some (Path (map (path_list_of all) m.lists))
atom_of all (MatchMetric ns) = Some (MedOneOf ns)
atom_of all _ = None

-- what is there, before what stands behind it
abbrev pub in_front : {A : Type 0} → Option A → List A → List A
in_front (Some x) xs = x ∷ xs
in_front None xs = xs

-- what lines test, one after the other
unfoldable pub atoms_of : List IosItem → List MapLine → List Atom
atoms_of all [] = []
atoms_of all (l ∷ ls) = in_front (atom_of all l) (atoms_of all ls)
