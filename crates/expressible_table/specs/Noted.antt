-- What the walks of the code keep: names of lists with the entries that the kinds ask for, and what is left of a walk.
use Rattle.std.specs.Prelude.{◌≡◌, ℕ, Bool, true, false, ◌&&◌, not, ◌==◌, List}
use Rattle.std.specs.List.{list_any}
use Rattle.route_types.specs.Address.{width}
use Rattle.route_types.specs.declared.address.Family.{Family}
use Rattle.policy_text.specs.NameSets.{has_name, is_key}
use Rattle.ios_tree.specs.Tree.{family_of}
use Rattle.ios_tree.specs.declared.item.IosForm.{IosForm}
use Rattle.ios_tree.specs.declared.item.IosForm.TheVariants.{PrefixEntry, CommunityEntry, Line}
use Rattle.ios_tree.specs.declared.item.IosItem.{IosItem}
use Rattle.ios_tree.specs.declared.item.MapLine.{MapLine}
use Rattle.ios_tree.specs.declared.item.MapLine.TheVariants.{MatchNextHop}
use Rattle.expressible_table.specs.Kinds.{has_short, has_deny}
use Rattle.expressible_table.specs.Constructs.{put_lines, entries_in}
use Rattle.expressible_table.specs.declared.construct.Construct.{Construct}
use Rattle.expressible_table.specs.declared.lists.Lists.{Lists}

-- the form is an entry of this prefix list that isn't of full length, the list's sort being the width of its family
abbrev pub gives_short : List ℕ → ℕ → ℕ → IosForm → Bool
gives_short list sort number (PrefixEntry e) = is_key list sort number e.list (width (family_of e)) 0 && not (e.entry.range.prefix.length == width (family_of e))
gives_short list sort number _ = false

-- the form is an entry of this community list that denies
abbrev pub gives_deny : List ℕ → ℕ → ℕ → IosForm → Bool
gives_deny list sort number (CommunityEntry e) = is_key list sort number e.list 0 0 && not e.permit
gives_deny list sort number _ = false

-- a line that tests the next hop: it alone asks for entries that aren't of full length
abbrev pub tests_hop : MapLine → Bool
tests_hop (MatchNextHop m) = true
tests_hop _ = false

abbrev pub is_hop_line : IosForm → Bool
is_hop_line (Line l) = tests_hop l
is_hop_line _ = false

-- one of the items is such a line
abbrev pub has_hop_line : List IosItem → Bool
has_hop_line all = list_any (λ i. is_hop_line i.form) all

-- the sets tell which lists of the items have such entries, of prefix lists where a line asks for them
pub record TellLists (l : Lists) : Type 0 where
  pub short : has_hop_line l.items.now ≡ true → (family : Family) (list : List ℕ) → has_name l.short list (width family) 0 ≡ has_short l.items.now family list
  pub deny : (list : List ℕ) → has_name l.deny list 0 0 ≡ has_deny l.items.now list

-- the constructs of the items that are left, inside of an entry of the route-map or not
abbrev pub left_in : List IosItem → List ℕ → Bool → List IosItem → List Construct
left_in all name true is = put_lines all is (entries_in all name is)
left_in all name false is = entries_in all name is
