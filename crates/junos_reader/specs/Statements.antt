-- The conditions, actions and term headers of a tree, each with the policy that it stands in, and what they name.
use Rattle.std.specs.Prelude.{ℕ, Bool, true, false, ◌&&◌, List, [], ◌∷◌, Option, Some, None, bytes_eq}
use Rattle.std.specs.List.{list_any}
use Rattle.policy_calls.specs.Calls.{Link}
use Rattle.junos_tree.specs.Sorts.{same_sort, is_inner}
use Rattle.junos_tree.specs.declared.item.StatementSort.{StatementSort}
use Rattle.junos_tree.specs.declared.item.StatementSort.TheVariants.{PrefixList as ListSort, Community as CommunitySort, AsPath as PathSort, Policy as PolicySort, Inner}
use Rattle.junos_tree.specs.declared.item.Condition.{Condition}
use Rattle.junos_tree.specs.declared.item.Condition.TheVariants.{Community as HasCommunity, AsPath as HasPath, Policy as CallsPolicies, PrefixList as InLists, ListFilter as InList}
use Rattle.junos_tree.specs.declared.item.Action.{Action}
use Rattle.junos_tree.specs.declared.item.Action.TheVariants.{Community as ChangesCommunities}
use Rattle.junos_tree.specs.declared.item.JunosForm.{JunosForm}
use Rattle.junos_tree.specs.declared.item.JunosForm.TheVariants.{Policy as PolicyForm, Condition as IsCondition, Action as IsAction}
use Rattle.junos_tree.specs.declared.item.JunosItem.{JunosItem}

-- a statement of a policy
pub record Statement : Type 0 where
  pub policy : List ℕ
  pub form : JunosForm

-- the policy that a form starts
abbrev pub policy_in : JunosForm → Option (List ℕ)
policy_in (PolicyForm name) = Some name
policy_in _ = None

-- the policy that a form stands in or starts, where the form before it stands in this one
abbrev pub policy_behind : Option (List ℕ) → JunosForm → Option (List ℕ)
policy_behind policy form = elim (is_inner form) [ true ↦ policy | false ↦ policy_in form ]

-- the form in its policy, if it is in one, in front of other statements
abbrev pub onto_statements : Option (List ℕ) → JunosForm → List Statement → List Statement
onto_statements None form rest = rest
onto_statements (Some policy) form rest = record { policy = policy; form = form } ∷ rest

-- the statements of policies among these items, the first of which stand in this policy
unfoldable pub statements_from : Option (List ℕ) → List JunosItem → List Statement
statements_from policy [] = []
statements_from policy (i ∷ is) = onto_statements (policy_behind policy i.form) i.form (statements_from (policy_behind policy i.form) is)

-- the statements of the policies of a tree, in text order
abbrev pub statements_of : List JunosItem → List Statement
statements_of all = statements_from None all

-- ---- what a statement names

-- the definitions that a condition names, and their sort
abbrev pub named_by_condition : Condition → StatementSort × List (List ℕ)
named_by_condition (HasCommunity names) = (CommunitySort, names)
named_by_condition (HasPath names) = (PathSort, names)
named_by_condition (CallsPolicies names) = (PolicySort, names)
named_by_condition (InLists names) = (ListSort, names)
named_by_condition (InList f) = (ListSort, f.list ∷ [])
named_by_condition _ = (Inner, [])

-- the definitions that an action names, and their sort
abbrev pub named_by_action : Action → StatementSort × List (List ℕ)
named_by_action (ChangesCommunities a) = (CommunitySort, a.community ∷ [])
named_by_action _ = (Inner, [])

-- the definitions that a form names, and their sort
abbrev pub named_by : JunosForm → StatementSort × List (List ℕ)
named_by (IsCondition c) = named_by_condition c.condition
named_by (IsAction a) = named_by_action a.action
named_by _ = (Inner, [])

-- the form names this definition
abbrev pub names_it : StatementSort → List ℕ → JunosForm → Bool
names_it sort q form = same_sort sort (named_by form).0 && list_any (bytes_eq q) (named_by form).1

-- the policies that a condition calls
abbrev pub called_by_condition : Condition → List (List ℕ)
called_by_condition (CallsPolicies names) = names
called_by_condition _ = []

-- the policies that a form calls
abbrev pub called_by : JunosForm → List (List ℕ)
called_by (IsCondition c) = called_by_condition c.condition
called_by _ = []

-- the form is a `policy` condition
abbrev pub is_calling_condition : Condition → Bool
is_calling_condition (CallsPolicies names) = true
is_calling_condition _ = false

abbrev pub is_call : JunosForm → Bool
is_call (IsCondition c) = is_calling_condition c.condition
is_call _ = false

-- the form is an `as-path` condition
abbrev pub is_path_condition : Condition → Bool
is_path_condition (HasPath names) = true
is_path_condition _ = false

abbrev pub is_path_test : JunosForm → Bool
is_path_test (IsCondition c) = is_path_condition c.condition
is_path_test _ = false

-- ---- the calls of a tree

-- the calls of a policy to these
abbrev pub links_to : List ℕ → List (List ℕ) → List Link → List Link
links_to policy [] rest = rest
links_to policy (q ∷ qs) rest = record { caller = policy; callee = q } ∷ links_to policy qs rest

-- the calls of statements
unfoldable pub links_in : List Statement → List Link
links_in [] = []
links_in (s ∷ ss) = links_to s.policy (called_by s.form) (links_in ss)

-- the calls of the policies of a tree
abbrev pub links_of : List JunosItem → List Link
links_of all = links_in (statements_of all)

-- the policies of statements that are `as-path` conditions
unfoldable pub testers_in : List Statement → List (List ℕ)
testers_in [] = []
testers_in (s ∷ ss) = elim (is_path_test s.form) [ true ↦ s.policy ∷ testers_in ss | false ↦ testers_in ss ]

-- the policies of a tree that test the path themselves
abbrev pub testers_of : List JunosItem → List (List ℕ)
testers_of all = testers_in (statements_of all)
