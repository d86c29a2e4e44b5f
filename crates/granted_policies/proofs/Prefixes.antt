-- The prefix lists of a text are in range; those without an entry that isn't of full length hold addresses alone.
use Rattle.std.proofs.Common.{◌≡◌, refl, ℕ, Bool, true, false, ◌&&◌, not, List, [], ◌∷◌}
use Rattle.std.specs.Prelude.{◌==◌, map}
use Rattle.std.specs.List.{list_all, list_any, AllByRecursion}
use Rattle.route_types.specs.declared.address.Family.{Family}
use Rattle.route_types.specs.declared.address.Family.TheVariants.{V4}
use Rattle.prefix_sets.specs.declared.list.PrefixList.{PrefixList}
use Rattle.policy_core.specs.Ranges.{prefix_in_range, list_in_range}
use Rattle.policy_core.specs.Sayable.{is_full_length}
use Rattle.ios_tree.specs.Tree.{is_of_list}
use Rattle.ios_tree.specs.declared.item.IosForm.{IosForm}
use Rattle.ios_tree.specs.declared.item.IosForm.TheVariants.{PrefixEntry}
use Rattle.ios_tree.specs.declared.item.IosItem.{IosItem}
use Rattle.ios_tree.specs.declared.item.PrefixListEntry.{PrefixListEntry}
use Rattle.ios_meaning.specs.Lists.{prefix_entry_from, prefix_entries}
use Rattle.ios_meaning.specs.Order.{in_order}
use Rattle.ios_lower.specs.Atoms.{prefix_list_of}
use Rattle.expressible_table.specs.Kinds.{is_short, has_short}
use Rattle.granted_policies.proofs.Lists.{both_true, made_pass, none_passes, all_in_order}
use Rattle.granted_policies.proofs.Written.{HasRange, AreWritten, IsWrittenForm}

-- ---- in range

range_from : (family : Family) (list : List ℕ) (form : IosForm) (es : List PrefixListEntry) → IsWrittenForm form → AllByRecursion HasRange es
    → AllByRecursion HasRange (prefix_entry_from family list form es)
range_from family list (PrefixEntry e) es here more = by (is_of_list family list e)
  where
    by : (b : Bool) → AllByRecursion HasRange (elim b [ true ↦ e ∷ es | false ↦ es ])
    by true = (here, more)
    by false = more
range_from family list _ es here more = more

entries_in_range : (family : Family) (list : List ℕ) (is : List IosItem) → AreWritten is → AllByRecursion HasRange (prefix_entries family list is)
entries_in_range family list [] h = tt
entries_in_range family list (i ∷ is) h = range_from family list i.form (prefix_entries family list is) h.0 (entries_in_range family list is h.1)

-- what each entry of a list passes, the list does
ordered_pass : (p : PrefixListEntry → Bool) (all : List IosItem) (family : Family) (list : List ℕ) → AllByRecursion (λ e. p e ≡ true) (prefix_entries family list all)
    → AllByRecursion (λ e. p e ≡ true) (in_order (λ e. e.number) (prefix_entries family list all))
ordered_pass p all family list h = all_in_order (λ e. p e ≡ true) (λ e. e.number) (prefix_entries family list all) h

pub list_range : (all : List IosItem) (family : Family) (list : List ℕ) → AreWritten all → list_in_range (prefix_list_of all family list) ≡ true
list_range all family list h =
    made_pass (λ e. e.entry) (λ e. prefix_in_range e.range.prefix) (in_order (λ e. e.number) (prefix_entries family list all))
    (ordered_pass (λ e. prefix_in_range e.entry.range.prefix) all family list (entries_in_range family list all h))

pub lists_range : (all : List IosItem) (family : Family) (lists : List (List ℕ)) → AreWritten all → list_all list_in_range (map (prefix_list_of all family) lists) ≡ true
lists_range all family [] h = refl
lists_range all family (list ∷ lists) h =
    both_true (list_in_range (prefix_list_of all family list)) (list_all list_in_range (map (prefix_list_of all family) lists)) (list_range all family list h) (lists_range all family lists h)

-- ---- of full length

-- the entry's prefix has 32 bits
abbrev IsFull : PrefixListEntry → Type 0
IsFull e = (e.entry.range.prefix.length == 32) ≡ true

not_not : (b : Bool) → not b ≡ false → b ≡ true
not_not true h = refl
not_not false h = absurd cc

full_from : (list : List ℕ) (form : IosForm) (es : List PrefixListEntry) → is_short V4 list form ≡ false → AllByRecursion IsFull es → AllByRecursion IsFull (prefix_entry_from V4 list form es)
full_from list (PrefixEntry e) es here more = by (is_of_list V4 list e) here
  where
    by : (b : Bool) → (b && not (e.entry.range.prefix.length == 32)) ≡ false → AllByRecursion IsFull (elim b [ true ↦ e ∷ es | false ↦ es ])
    by true h = (not_not (e.entry.range.prefix.length == 32) h, more)
    by false h = more
full_from list _ es here more = more

entries_full : (list : List ℕ) (is : List IosItem) → AllByRecursion (λ i. is_short V4 list i.form ≡ false) is → AllByRecursion IsFull (prefix_entries V4 list is)
entries_full list [] h = tt
entries_full list (i ∷ is) h = full_from list i.form (prefix_entries V4 list is) h.0 (entries_full list is h.1)

list_full : (all : List IosItem) (list : List ℕ) → has_short all V4 list ≡ false → is_full_length (prefix_list_of all V4 list) ≡ true
list_full all list h =
    made_pass (λ e. e.entry) (λ e. e.range.prefix.length == 32) (in_order (λ e. e.number) (prefix_entries V4 list all))
    (ordered_pass (λ e. e.entry.range.prefix.length == 32) all V4 list (entries_full list all (none_passes (λ i. is_short V4 list i.form) all h)))

lists_by : (all : List IosItem) (lists : List (List ℕ)) → AreWritten all → AllByRecursion (λ list. has_short all V4 list ≡ false) lists
    → list_all (λ l. list_in_range l && is_full_length l) (map (prefix_list_of all V4) lists) ≡ true
lists_by all [] w h = refl
lists_by all (list ∷ lists) w h =
    let l = prefix_list_of all V4 list in
    both_true (list_in_range l && is_full_length l) (list_all (λ (m : PrefixList). list_in_range m && is_full_length m) (map (prefix_list_of all V4) lists))
    (both_true (list_in_range l) (is_full_length l) (list_range all V4 list w) (list_full all list h.0)) (lists_by all lists w h.1)

pub lists_full : (all : List IosItem) (family : Family) (lists : List (List ℕ)) → family ≡ V4 → AreWritten all → list_any (has_short all family) lists ≡ false
    → list_all (λ l. list_in_range l && is_full_length l) (map (prefix_list_of all family) lists) ≡ true
lists_full all V4 lists e w h = lists_by all lists w (none_passes (has_short all V4) lists h)
lists_full all _ lists e w h = absurd cc
