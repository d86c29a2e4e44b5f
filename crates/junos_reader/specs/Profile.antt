-- The profile of a chain of Junos policies: which items it reaches, the causes, each a rule of its own on the facts of the
-- tree, what stands before the item, and the item, and the first fault in text order.
use Rattle.std.specs.Prelude.{◌≡◌, ℕ, Bool, true, false, ◌&&◌, ◌||◌, not, nat_lt, nat_le, ◌<◌, length, List, [], ◌∷◌, Option, Some, None}
use Rattle.std.specs.List.{list_any, list_all}
use Rattle.text_words.specs.declared.statement.Span.{Span}
use Rattle.policy_text.specs.Causes.{Rules, first_fault_from, HasNoFault, IsFirstFault}
use Rattle.policy_text.specs.declared.fault.Cause.{Cause}
use Rattle.policy_text.specs.declared.fault.Cause.TheVariants.{UnknownForm, DefinedTwice, Undefined, SameKindTwice, NotPlain, MixedPrefixTests, SamePrefixTwice, PathTestAfterPrepend, SubroutineChanges, NextPolicyInSubroutine, Cycle, TooDeep}
use Rattle.junos_tree.specs.Sorts.{sort_of_form, name_of_form, is_inner, defines}
use Rattle.junos_tree.specs.declared.item.StatementSort.{StatementSort}
use Rattle.junos_tree.specs.declared.item.StatementSort.TheVariants.{Policy as PolicySort}
use Rattle.junos_tree.specs.declared.item.JunosForm.{JunosForm}
use Rattle.junos_tree.specs.declared.item.JunosForm.TheVariants.{Term as TermHeader}
use Rattle.junos_tree.specs.declared.item.JunosItem.{JunosItem}
use Rattle.junos_reader.specs.Statements.{named_by, called_by, is_call, is_path_test}
use Rattle.junos_reader.specs.Forms.{has_no_form, kind_of, filter_of, acts, changes, leaves, set_or_added_by, is_unnamed}
use Rattle.junos_reader.specs.Facts.{Facts, facts_of, forms_of}
use Rattle.junos_reader.specs.Before.{Definition, Earlier, Before, before_of, definition_of}

-- a chain of policies as clauses see it
pub record PolicyParts : Type 0 where
  pub items : List JunosItem
  pub names : List (List ℕ)

-- the value is there, and passes a test
abbrev pub passes : {A : Type 0} → (A → Bool) → Option A → Bool
passes test None = false
passes test (Some x) = test x

-- ---- what is reached

-- the definition that a form stands in, or starts
abbrev pub definition_at : Before → JunosForm → Option Definition
definition_at before form = elim (is_inner form) [ true ↦ before.definition | false ↦ definition_of form ]

-- the name of the definition, if it is of a policy
abbrev pub policy_name : Option Definition → Option (List ℕ)
policy_name (Some (PolicySort, name)) = Some name
policy_name _ = None

-- the policy that a form stands in
abbrev pub policy_at : Before → Option (List ℕ)
policy_at before = policy_name before.definition

-- a form is reached with its definition
abbrev pub is_reached : Facts → Before → JunosForm → Bool
is_reached facts before form = passes (λ d. facts.reached d.0 d.1) (definition_at before form)

-- what stands before a form in its term
abbrev pub term_at : Before → JunosForm → Earlier
term_at before form = elim (is_unnamed form) [ true ↦ before.unnamed | false ↦ before.named ]

-- ---- the causes

-- defined-twice: an earlier definition has the sort and the name, or an earlier term of the policy has the name
abbrev pub is_second_definition : Before → JunosForm → Bool
is_second_definition before (TermHeader name) = before.terms name
is_second_definition before form = not (is_inner form) && passes (λ name. before.defined (sort_of_form form) name) (name_of_form form)

-- undefined: the form names a definition that isn't there
abbrev pub is_undefined : Facts → JunosForm → Bool
is_undefined facts form = list_any (λ q. not (facts.defined (named_by form).0 q)) (named_by form).1

-- same-kind-twice: the `from` has such a condition before, or the `then` a flow action
abbrev pub repeats_kind : Before → JunosForm → Bool
repeats_kind before form = passes (λ k. nat_lt k 4 && (term_at before form).kinds k) (kind_of form)

-- not-plain: a community is set or added whose members are not all single communities
abbrev pub sets_many : Facts → JunosForm → Bool
sets_many facts form = passes (λ q. facts.not_plain q) (set_or_added_by form)

-- exactly one of four
abbrev pub exactly_one : Bool → Bool → Bool → Bool → Bool
exactly_one a b c d = elim a [ true ↦ not (b || c || d) | false ↦ elim b [ true ↦ not (c || d) | false ↦ elim c [ true ↦ not d | false ↦ d ] ] ]

-- the statements before in the term test the prefix in exactly one way
abbrev pub tests_one_way : Earlier → Bool
tests_one_way e = exactly_one (e.kinds 4) (e.kinds 5) (e.kinds 6) (e.kinds 7)

-- mixed-prefix-tests: all earlier tests of the prefix in the `from` are of one other way
abbrev pub mixes_tests : Before → JunosForm → Bool
mixes_tests before form = passes (λ k. nat_le 4 k && not ((term_at before form).kinds k) && tests_one_way (term_at before form)) (kind_of form)

-- same-prefix-twice: an earlier route-filter of the `from` has the prefix
abbrev pub repeats_prefix : Before → JunosForm → Bool
repeats_prefix before form = passes (λ p. (term_at before form).filters p) (filter_of form)

-- the form tests the path, or calls a policy that leads to such a test
abbrev pub asks_path : Facts → JunosForm → Bool
asks_path facts form = is_path_test form || list_any (λ q. facts.tests_path q) (called_by form)

-- a term of the chain before that of the form puts numbers before the path and goes on; the term without a name stands
-- behind all named ones of its policy
abbrev pub is_behind_prepend : Facts → Before → JunosForm → List ℕ → Bool
is_behind_prepend facts before form policy =
    facts.behind_prepend policy || facts.in_chain policy && (elim (is_unnamed form) [ true ↦ facts.prepends policy | false ↦ before.goes_on ])

-- path-test-after-prepend: a test of the path stands behind such a term
abbrev pub tests_after_prepend : Facts → Before → JunosForm → Bool
tests_after_prepend facts before form = asks_path facts form && passes (λ policy. is_behind_prepend facts before form policy) (policy_at before)

-- subroutine-changes: an action that changes the route stands in a policy that a condition calls
abbrev pub changes_in_subroutine : Facts → Before → JunosForm → Bool
changes_in_subroutine facts before form = acts changes form && passes (λ policy. facts.called policy) (policy_at before)

-- next-policy-in-subroutine: `next policy` stands in such a policy
abbrev pub leaves_subroutine : Facts → Before → JunosForm → Bool
leaves_subroutine facts before form = acts leaves form && passes (λ policy. facts.called policy) (policy_at before)

-- cycle: a policy is called that leads back to the one in which the call stands
abbrev pub calls_back : Facts → Before → JunosForm → Bool
calls_back facts before form = passes (λ policy. list_any (λ q. facts.turns_back policy q) (called_by form)) (policy_at before)

-- too-deep: the call is the first beyond the most that may stand one in the other
abbrev pub calls_too_deep : Facts → Before → JunosForm → Bool
calls_too_deep facts before form = is_call form && passes (λ policy. facts.too_deep policy) (policy_at before)

-- the cause holds of a form
abbrev pub has_cause : Facts → Before → JunosForm → Cause → Bool
has_cause facts before form UnknownForm = has_no_form form
has_cause facts before form DefinedTwice = is_second_definition before form
has_cause facts before form Undefined = is_undefined facts form
has_cause facts before form SameKindTwice = repeats_kind before form
has_cause facts before form NotPlain = sets_many facts form
has_cause facts before form MixedPrefixTests = mixes_tests before form
has_cause facts before form SamePrefixTwice = repeats_prefix before form
has_cause facts before form PathTestAfterPrepend = tests_after_prepend facts before form
has_cause facts before form SubroutineChanges = changes_in_subroutine facts before form
has_cause facts before form NextPolicyInSubroutine = leaves_subroutine facts before form
has_cause facts before form Cycle = calls_back facts before form
has_cause facts before form TooDeep = calls_too_deep facts before form
has_cause facts before form _ = false

-- ---- the first fault

-- the form is reached, and the cause holds of it
abbrev pub is_fault : Facts → Before → JunosForm → Cause → Bool
is_fault facts before form cause = is_reached facts before form && has_cause facts before form cause

-- the rules for the chain of these names in a tree
abbrev pub rules_of : List (List ℕ) → List JunosItem → Rules JunosItem
rules_of names all before i = is_fault (facts_of names all) (before_of (forms_of before)) i.form

-- where an item stands
abbrev pub span_of : JunosItem → Span
span_of i = i.span

-- the first fault of the chain of these names
unfoldable pub first_fault : List (List ℕ) → List JunosItem → Option (Span × Cause)
first_fault names all = first_fault_from span_of (rules_of names all) [] all

-- no place of the tree has a fault of the chain
abbrev pub IsSound : List (List ℕ) → List JunosItem → Type 0
IsSound names all = HasNoFault (rules_of names all) all

-- a place of the tree has this fault of the chain, and no place with a fault starts before it
abbrev pub IsFirst : List (List ℕ) → List JunosItem → Span → Cause → Type 0
IsFirst names all span cause = IsFirstFault span_of (rules_of names all) all span cause

-- a policy-statement stands under the name
unfoldable pub is_defined : List JunosItem → List ℕ → Bool
is_defined all name = list_any (defines PolicySort name) all

-- the chain of these names is in profile: each is defined, and there is no fault
pub record InProfile (names : List (List ℕ)) (all : List JunosItem) : Type 0 where
  pub defined : list_all (is_defined all) names ≡ true
  pub sound : first_fault names all ≡ None

-- there is at least one name, and the chain of the names is in profile
pub record IsChainOf (all : List JunosItem) (names : List (List ℕ)) : Type 0 where
  pub some : 0 < length names
  pub in_profile : InProfile names all
