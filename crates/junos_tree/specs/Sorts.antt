-- What an item of a tree is, and the name that it stands under.
use Rattle.std.specs.Prelude.{ℕ, Bool, true, false, ◌&&◌, List, Option, Some, None}
use Rattle.policy_text.specs.Names.{is_named}
use Rattle.junos_tree.specs.declared.item.StatementSort.{StatementSort}
use Rattle.junos_tree.specs.declared.item.StatementSort.TheVariants.{PrefixList, Community, AsPath, Policy, Inner}
use Rattle.junos_tree.specs.declared.item.JunosForm.{JunosForm}
use Rattle.junos_tree.specs.declared.item.JunosForm.TheVariants.{PrefixList as ListForm, Community as CommunityForm, AsPath as PathForm, Policy as PolicyForm, Other}
use Rattle.junos_tree.specs.declared.item.JunosItem.{JunosItem}

-- what a form is
abbrev pub sort_of_form : JunosForm → StatementSort
sort_of_form (ListForm name) = PrefixList
sort_of_form (CommunityForm c) = Community
sort_of_form (PathForm p) = AsPath
sort_of_form (PolicyForm name) = Policy
sort_of_form (Other o) = o.sort
sort_of_form _ = Inner

-- the name that a form stands under
abbrev pub name_of_form : JunosForm → Option (List ℕ)
name_of_form (ListForm name) = Some name
name_of_form (CommunityForm c) = Some c.name
name_of_form (PathForm p) = Some p.name
name_of_form (PolicyForm name) = Some name
name_of_form (Other o) = o.name
name_of_form _ = None

-- two sorts are the same
abbrev pub same_sort : StatementSort → StatementSort → Bool
same_sort PrefixList PrefixList = true
same_sort Community Community = true
same_sort AsPath AsPath = true
same_sort Policy Policy = true
same_sort Inner Inner = true
same_sort _ _ = false

-- the sort of what stands in a block of a definition
abbrev pub is_inner_sort : StatementSort → Bool
is_inner_sort Inner = true
is_inner_sort _ = false

-- the form stands in the block of a definition, and starts none
abbrev pub is_inner : JunosForm → Bool
is_inner form = is_inner_sort (sort_of_form form)

-- the item starts a definition of this sort and name, of whatever form
abbrev pub defines : StatementSort → List ℕ → JunosItem → Bool
defines sort name i = same_sort sort (sort_of_form i.form) && is_named name (name_of_form i.form)
