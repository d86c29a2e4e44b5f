-- What the reader keeps on its one walk to give the entries their numbers. `Tree` says what they are.
use Rattle.std.specs.Prelude.{◌≡◌, ℕ, ◌+◌, true, false, List, Some, option_map, slice_get}
use Rattle.std.specs.BTreeMap.{BTreeMap, get_by}
use Rattle.std.specs.Cmp.Lexicographic.{slice_cmp}
use Rattle.std.specs.Ordering.{nat_cmp}
use denote.Ref.{Bor}
use Rattle.route_types.specs.declared.address.Family.{Family}
use Rattle.route_types.specs.declared.address.Family.TheVariants.{V4, V6}
use Rattle.policy_text.specs.Names.{or_else}
use Rattle.ios_tree.specs.Names.{list_name}
use Rattle.ios_tree.specs.Tree.{family_of, greatest_number, entry_with_number}
use Rattle.ios_tree.specs.declared.item.IosForm.{IosForm}
use Rattle.ios_tree.specs.declared.item.IosForm.TheVariants.{PrefixEntry}
use Rattle.ios_tree.specs.declared.item.IosItem.{IosItem}
use Rattle.ios_tree.specs.declared.number.Greatest.{Greatest}

-- the number that a map has for a list; 0 where it has none
abbrev pub greatest_in : BTreeMap (Bor (List ℕ)) ℕ → List ℕ → ℕ
greatest_in m list = or_else (get_by (λ k. slice_cmp nat_cmp list k.now) m) 0

-- the greatest number of a list so far
abbrev pub greatest_of : Greatest → Family → List ℕ → ℕ
greatest_of g V4 list = greatest_in g.v4 list
greatest_of g V6 list = greatest_in g.v6 list

-- what is kept are the greatest numbers of these items
abbrev pub Tells : Greatest → List IosItem → Type 0
Tells g items = (family : Family) (list : List ℕ) → greatest_of g family list ≡ greatest_number family list items

-- a form with its number, the greatest of each list being known
abbrev pub numbered_by : (Family → List ℕ → ℕ) → IosForm → IosForm
numbered_by greatest (PrefixEntry e) = elim e.has_seq [
  | true ↦ PrefixEntry e
  | false ↦ entry_with_number e (greatest (family_of e) e.list + 5)
]
numbered_by greatest form = form

-- the third word names the list of an entry
abbrev pub NamesList : List (List ℕ) → IosForm → Type 0
NamesList ws (PrefixEntry e) = option_map list_name (slice_get ws 2) ≡ Some e.list
NamesList ws _ = Unit {0}
