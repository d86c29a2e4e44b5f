-- The profile of an IOS policy: which items it reaches, the causes, each a rule of its own on the facts of the tree,
-- what stands before the item, and the item, and the first fault in text order.
use Rattle.std.specs.Prelude.{◌≡◌, ℕ, Bool, true, false, ◌&&◌, ◌||◌, not, ◌-◌, nat_le, nat_lt, List, [], ◌∷◌, Option, Some, None}
use Rattle.std.specs.List.{list_any}
use Rattle.text_words.specs.declared.statement.Span.{Span}
use Rattle.policy_text.specs.Names.{is_named}
use Rattle.policy_text.specs.Causes.{Rules, first_fault_from, HasNoFault, IsFirstFault}
use Rattle.policy_text.specs.declared.fault.Cause.{Cause}
use Rattle.policy_text.specs.declared.fault.Cause.TheVariants.{UnknownForm, DefinedTwice, SequenceTwice, Undefined, SameKindTwice, BackwardContinue, DenyContinue, UnsettledTest, ExactExpanded}
use Rattle.ios_tree.specs.Tree.{family_of}
use Rattle.ios_tree.specs.Sorts.{sort_of_form, name_of_form, heads}
use Rattle.ios_tree.specs.declared.item.ItemSort.{ItemSort}
use Rattle.ios_tree.specs.declared.item.ItemSort.TheVariants.{PrefixList, CommunityList, Map}
use Rattle.ios_tree.specs.declared.item.ItemSort.TheVariants.{Line as LineSort}
use Rattle.ios_tree.specs.declared.item.IosForm.{IosForm}
use Rattle.ios_tree.specs.declared.item.IosForm.TheVariants.{PrefixEntry, CommunityEntry, MapHeader}
use Rattle.ios_tree.specs.declared.item.IosItem.{IosItem}
use Rattle.ios_tree.specs.declared.item.MapLine.{MapLine}
use Rattle.ios_tree.specs.declared.item.MapLine.TheVariants.{MatchCommunity}
use Rattle.ios_tree.specs.declared.item.MapHeader.{MapHeader as Header}
use Rattle.ios_reader.specs.Items.{line_in, has_no_form, shape_code}
use Rattle.ios_reader.specs.Lines.{lists_named, kind_of, is_description_line, continues, target_of, tested_by}
use Rattle.ios_reader.specs.Facts.{Facts, facts_of, Before, before_of}

-- a policy as clauses see it
pub record PolicyParts : Type 0 where
  pub items : List IosItem
  pub names : List (List ℕ)

-- the value is there, and passes a test
abbrev pub passes : {A : Type 0} → (A → Bool) → Option A → Bool
passes test None = false
passes test (Some x) = test x

-- ---- what is reached

-- an item of this name and sort is reached: it heads an entry of the map, is a line of one, or is of a list that such a line names
abbrev pub is_reached_as : Facts → Before → Option (List ℕ) → ItemSort → Bool
is_reached_as facts before under Map = is_named facts.policy under
is_reached_as facts before under LineSort = before.inside
is_reached_as facts before under sort = passes (facts.named sort) under

-- an item of this form is reached
abbrev pub is_reached : Facts → Before → IosForm → Bool
is_reached facts before form = is_reached_as facts before (name_of_form form) (sort_of_form form)

-- ---- the causes

-- all forms are taken
abbrev pub all_forms : IosForm → Bool
all_forms form = true

-- unknown-form: the statement spells no form, or none that the caller takes
abbrev pub is_unknown : (IosForm → Bool) → IosForm → Bool
is_unknown takes form = not (takes form) || has_no_form form

-- defined-twice: a community list is of the other sort before, and of this sort from here on
abbrev pub is_second_sort : Before → IosForm → Bool
is_second_sort before (CommunityEntry e) = before.marked CommunityList e.list (1 - shape_code e.shape) && not (before.marked CommunityList e.list (shape_code e.shape))
is_second_sort before _ = false

-- sequence-twice: an earlier entry of the name has the number
abbrev pub repeats_number : Before → IosForm → Bool
repeats_number before (PrefixEntry e) = before.marked (PrefixList (family_of e)) e.list e.number
repeats_number before (MapHeader h) = before.marked Map h.map h.number
repeats_number before _ = false

-- undefined: a list is named that isn't there
abbrev pub lists_missing : Facts → MapLine → Bool
lists_missing facts line = list_any (λ list. not (facts.defined (lists_named line).0 list)) (lists_named line).1

-- undefined: the run is to go on at an entry above that isn't there
abbrev pub target_missing : Facts → Header → Option ℕ → Bool
target_missing facts h target = passes (λ n. nat_lt h.number n && not (facts.marked Map facts.policy n)) target

-- undefined: the line names a list or an entry that isn't there
abbrev pub is_undefined : Facts → Before → MapLine → Bool
is_undefined facts before line = lists_missing facts line || passes (λ h. target_missing facts h (target_of line)) before.header

-- same-kind-twice: the entry has an earlier line of this form
abbrev pub repeats_kind : Before → MapLine → Bool
repeats_kind before line = not (is_description_line line) && before.kinds (kind_of line)

-- backward-continue: the run is to go on at an entry that isn't above
abbrev pub continues_back : Before → MapLine → Bool
continues_back before line = passes (λ h. passes (λ n. nat_le n h.number) (target_of line)) before.header

-- deny-continue: the line continues in an entry that denies
abbrev pub continues_in_deny : Before → MapLine → Bool
continues_in_deny before line = passes (λ h. continues line && not h.permit) before.header

-- unsettled-test: an entry of lower number sets what the line tests, and continues
abbrev pub is_unsettled : Facts → Before → MapLine → Bool
is_unsettled facts before line = passes (λ h. passes (λ setting. facts.set_below setting h.number) (tested_by line)) before.header

-- exact-expanded: `exact-match` with an expanded list
abbrev pub is_exact_expanded : Facts → MapLine → Bool
is_exact_expanded facts (MatchCommunity m) = m.exact && list_any (λ list. facts.marked CommunityList list 1) m.lists
is_exact_expanded facts _ = false

-- the cause holds of a line
abbrev pub has_line_cause : Facts → Before → MapLine → Cause → Bool
has_line_cause facts before line Undefined = is_undefined facts before line
has_line_cause facts before line SameKindTwice = repeats_kind before line
has_line_cause facts before line BackwardContinue = continues_back before line
has_line_cause facts before line DenyContinue = continues_in_deny before line
has_line_cause facts before line UnsettledTest = is_unsettled facts before line
has_line_cause facts before line ExactExpanded = is_exact_expanded facts line
has_line_cause facts before line _ = false

-- the cause holds of an entry of a list or a map, or of any form; `unknown` says whether the form is unknown
abbrev pub has_form_cause : Bool → Before → IosForm → Cause → Bool
has_form_cause unknown before form UnknownForm = unknown
has_form_cause unknown before form DefinedTwice = is_second_sort before form
has_form_cause unknown before form SequenceTwice = repeats_number before form
has_form_cause unknown before form _ = false

-- the cause holds of a form
abbrev pub has_cause : Bool → Facts → Before → IosForm → Cause → Bool
has_cause unknown facts before form cause = has_form_cause unknown before form cause || passes (λ line. has_line_cause facts before line cause) (line_in form)

-- ---- the first fault

-- the form is reached, and the cause holds of it
abbrev pub is_fault : (IosForm → Bool) → Facts → Before → IosForm → Cause → Bool
is_fault takes facts before form cause = is_reached facts before form && has_cause (is_unknown takes form) facts before form cause

-- the rules for the policy of this name in a tree, for a caller who takes these forms
abbrev pub rules_of : (IosForm → Bool) → List ℕ → List IosItem → Rules IosItem
rules_of takes name all before i = is_fault takes (facts_of name all) (before_of name before) i.form

-- where an item stands
abbrev pub span_of : IosItem → Span
span_of i = i.span

-- the first fault of the policy of this name, for a caller who takes these forms
unfoldable pub first_fault_within : (IosForm → Bool) → List ℕ → List IosItem → Option (Span × Cause)
first_fault_within takes name all = first_fault_from span_of (rules_of takes name all) [] all

-- the first fault of the policy of this name
abbrev pub first_fault : List ℕ → List IosItem → Option (Span × Cause)
first_fault name all = first_fault_within all_forms name all

-- no place of the tree has a fault of the policy
abbrev pub IsSoundWithin : (IosForm → Bool) → List ℕ → List IosItem → Type 0
IsSoundWithin takes name all = HasNoFault (rules_of takes name all) all

-- a place of the tree has this fault of the policy, and no place with a fault starts before it
abbrev pub IsFirstFaultWithin : (IosForm → Bool) → List ℕ → List IosItem → Span → Cause → Type 0
IsFirstFaultWithin takes name all span cause = IsFirstFault span_of (rules_of takes name all) all span cause

-- a route-map stands under the name
unfoldable pub is_defined : List ℕ → List IosItem → Bool
is_defined name all = list_any (heads name) all

-- the policy of this name is in profile: it is defined and has no fault
pub record InProfile (name : List ℕ) (all : List IosItem) : Type 0 where
  pub defined : is_defined name all ≡ true
  pub sound : first_fault name all ≡ None

-- the names are one, and the policy under it is in profile
pub record IsPolicyOf (all : List IosItem) (names : List (List ℕ)) : Type 0 where
  pub name : List ℕ
  pub one : names ≡ name ∷ []
  pub in_profile : InProfile name all
