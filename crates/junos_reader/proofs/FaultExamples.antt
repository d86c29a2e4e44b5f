-- The first fault of small trees, which the checker computes: one for each cause, and neighbours.
use Rattle.std.proofs.Common.{◌≡◌, refl, List, [], ◌∷◌, ◌+◌, ℕ, Bool, true, false}
use Rattle.std.specs.Prelude.{Some, None, Option, codes, map}
use Rattle.text_words.specs.declared.statement.Span.{Span}
use Rattle.policy_text.specs.declared.fault.Cause.{Cause}
use Rattle.policy_text.specs.declared.fault.Cause.TheVariants.{UnknownForm, DefinedTwice, Undefined, SameKindTwice, NotPlain, MixedPrefixTests, SamePrefixTwice, PathTestAfterPrepend, SubroutineChanges, NextPolicyInSubroutine, Cycle, TooDeep}
use Rattle.policy_text.specs.Causes.{first_cause, first_fault_from}
use Rattle.route_types.specs.declared.address.Family.TheVariants.{V4}
use Rattle.route_types.specs.Community.{RectParts}
use Rattle.prefix_sets.specs.Range.{RangeParts}
use Rattle.policy_calls.specs.Calls.{leads}
use Rattle.policy_calls.specs.Depth.{is_at, is_too_deep}
use Rattle.junos_tree.specs.Terms.{term_before}
use Rattle.junos_tree.specs.declared.item.StatementSort.TheVariants.{Inner}
use Rattle.junos_tree.specs.declared.item.Condition.{Condition}
use Rattle.junos_tree.specs.declared.item.Condition.TheVariants.{AsPath as HasPath, Policy as CallsPolicies, RouteFilter, ListFilter as InList, Metric as HasMetric}
use Rattle.junos_tree.specs.declared.item.Action.{Action}
use Rattle.junos_tree.specs.declared.item.Action.TheVariants.{Flow as GoesTo, Metric, Prepend, Community as ChangesCommunities}
use Rattle.junos_tree.specs.declared.item.Flow.{Flow}
use Rattle.junos_tree.specs.declared.item.Flow.TheVariants.{Accept, Reject, NextPolicy}
use Rattle.junos_tree.specs.declared.item.CommunityVerb.{CommunityVerb}
use Rattle.junos_tree.specs.declared.item.CommunityVerb.TheVariants.{Set, Delete}
use Rattle.junos_tree.specs.declared.item.JunosForm.{JunosForm}
use Rattle.junos_tree.specs.declared.item.JunosForm.TheVariants.{PrefixList, Community, AsPath, Policy, Term, Condition as IsCondition, Action as IsAction, Other}
use Rattle.junos_tree.specs.declared.item.JunosItem.{JunosItem}
use Rattle.junos_reader.specs.Statements.{statements_from, links_in, testers_in}
use Rattle.junos_reader.specs.Terms.{goes_on_before, policy_before, passing, stands_behind}
use Rattle.junos_reader.specs.Facts.{Facts}
use Rattle.junos_reader.specs.Before.{before_of, definition_before, has_term}
use Rattle.junos_reader.specs.Profile.{is_fault, first_fault}

-- the statement at a place
abbrev span : ℕ → Span
span n = record { start = n; end = n + 1 }

-- the forms, from a place on, each at a place of its own
abbrev items : ℕ → List JunosForm → List JunosItem
items n [] = []
items n (f ∷ fs) = record { form = f; span = span n } ∷ items (n + 1) fs

-- a condition and an action of a named term, and the same of the term without a name
abbrev asks : Condition → JunosForm
asks c = IsCondition (record { unnamed = false; condition = c })

abbrev does : Action → JunosForm
does a = IsAction (record { unnamed = false; action = a })

abbrev asks_unnamed : Condition → JunosForm
asks_unnamed c = IsCondition (record { unnamed = true; condition = c })

abbrev does_unnamed : Action → JunosForm
does_unnamed a = IsAction (record { unnamed = true; action = a })

-- route-filters of 10.0.0.0/8 and 10.0.0.0/9, of these lengths
abbrev filter : ℕ → ℕ → Condition
filter length least = RouteFilter (record { prefix = record { address = record { family = V4; bits = 167772160 }; length = length }; least = least; most = 32 })

abbrev in_list : Condition
in_list = InList (record { list = codes "L"; or_longer = true })

-- the communities of 65001, and 65001:7
abbrev all_of : List RectParts
all_of = record { high_least = 65001; high_most = 65001; low_least = 0; low_most = 65535 } ∷ []

abbrev one_of : List RectParts
one_of = record { high_least = 65001; high_most = 65001; low_least = 7; low_most = 7 } ∷ []

abbrev community : List RectParts → JunosForm
community members = Community (record { name = codes "C"; members = members })

abbrev changes : CommunityVerb → Action
changes verb = ChangesCommunities (record { verb = verb; community = codes "C" })

abbrev path : JunosForm
path = AsPath (record { name = codes "P"; pattern = record { branches = [] }; text = codes ".*" })

abbrev has_path : Condition
has_path = HasPath (codes "P" ∷ [])

abbrev calls : List ℕ → Condition
calls name = CallsPolicies (name ∷ [])

abbrev prepends : Action
prepends = Prepend (65001 ∷ [])

-- the names of a chain, a tree, and the span and the cause of the first fault
abbrev Row : Type 0
Row = List (List ℕ) × List JunosForm × Option (Span × Cause)

abbrev faults_are : List Row → Type 0
faults_are rows = map (λ r. first_fault r.0 (items 0 r.1)) rows ≡ map (λ r. r.2) rows

-- the chain of A, and that of A and B
abbrev a : List (List ℕ)
a = codes "A" ∷ []

abbrev a_b : List (List ℕ)
a_b = codes "A" ∷ codes "B" ∷ []

-- one for each cause that looks at a statement, its term and what it names
a_row_a_cause : faults_are (
    (a, Policy (codes "A") ∷ Other (record { sort = Inner; name = None }) ∷ [], Some (span 1, UnknownForm))
    ∷ (a, Policy (codes "A") ∷ Term (codes "t") ∷ Term (codes "t") ∷ [], Some (span 2, DefinedTwice))
    ∷ (a, Policy (codes "A") ∷ asks in_list ∷ [], Some (span 1, Undefined))
    ∷ (a, Policy (codes "A") ∷ Term (codes "t") ∷ asks (HasMetric 5) ∷ asks (HasMetric 5) ∷ [], Some (span 3, SameKindTwice))
    ∷ (a, community all_of ∷ Policy (codes "A") ∷ does_unnamed (changes Set) ∷ [], Some (span 2, NotPlain))
    ∷ (a, PrefixList (codes "L") ∷ Policy (codes "A") ∷ asks_unnamed in_list ∷ Term (codes "t") ∷ asks in_list ∷ asks_unnamed (filter 8 8) ∷ [], Some (span 5, MixedPrefixTests))
    ∷ (a, Policy (codes "A") ∷ Term (codes "t") ∷ asks (filter 8 8) ∷ asks (filter 9 9) ∷ asks (filter 8 16) ∷ [], Some (span 4, SamePrefixTwice)) ∷ [])
unfolding first_fault first_fault_from first_cause statements_from links_in testers_in leads is_at is_too_deep term_before goes_on_before policy_before passing stands_behind definition_before has_term
a_row_a_cause = refl

-- one for each cause that looks at the chain and at calls
a_row_a_call : faults_are (
    (a_b, path ∷ Policy (codes "A") ∷ Term (codes "t") ∷ does prepends ∷ Policy (codes "B") ∷ Term (codes "u") ∷ asks has_path ∷ [], Some (span 6, PathTestAfterPrepend))
    ∷ (a, Policy (codes "A") ∷ asks_unnamed (calls (codes "S")) ∷ Policy (codes "S") ∷ does_unnamed (Metric 5) ∷ [], Some (span 3, SubroutineChanges))
    ∷ (a, Policy (codes "A") ∷ asks_unnamed (calls (codes "S")) ∷ Policy (codes "S") ∷ does_unnamed (GoesTo NextPolicy) ∷ [], Some (span 3, NextPolicyInSubroutine))
    ∷ (a, Policy (codes "A") ∷ asks_unnamed (calls (codes "S")) ∷ Policy (codes "S") ∷ asks_unnamed (calls (codes "A")) ∷ [], Some (span 1, Cycle)) ∷ [])
unfolding first_fault first_fault_from first_cause statements_from links_in testers_in leads is_at is_too_deep term_before goes_on_before policy_before passing stands_behind definition_before has_term
a_row_a_call = refl

-- neighbours: no fault where the term that prepends also accepts; one in the second policy of the chain, and none where it
-- isn't of the chain; a policy condition that leads to a test of the path counts as one; the term without a name stands behind
-- the named ones, also where it is written before them
neighbours : faults_are (
    (a_b, path ∷ Policy (codes "A") ∷ Term (codes "t") ∷ does prepends ∷ does (GoesTo Accept) ∷ Policy (codes "B") ∷ Term (codes "u") ∷ asks has_path ∷ [], None)
    ∷ (a_b, Policy (codes "A") ∷ Policy (codes "B") ∷ asks_unnamed in_list ∷ [], Some (span 2, Undefined))
    ∷ (a, Policy (codes "A") ∷ Policy (codes "B") ∷ asks_unnamed in_list ∷ [], None)
    ∷ (a, path ∷ Policy (codes "S") ∷ asks_unnamed has_path ∷ Policy (codes "A") ∷ asks_unnamed (calls (codes "S")) ∷ Term (codes "t") ∷ does prepends ∷ [], Some (span 4, PathTestAfterPrepend)) ∷ [])
unfolding first_fault first_fault_from first_cause statements_from links_in testers_in leads is_at is_too_deep term_before goes_on_before policy_before passing stands_behind definition_before has_term
neighbours = refl

-- too-deep, of a call in a policy that is the last of 128 calls one in the other; and no cause where it isn't
abbrev deep : Bool → Facts
deep last = record {
  defined = λ sort q. true;
  reached = λ sort q. true;
  called = λ q. false;
  tests_path = λ q. false;
  not_plain = λ q. false;
  in_chain = λ q. false;
  behind_prepend = λ q. false;
  prepends = λ q. false;
  turns_back = λ p q. false;
  too_deep = λ q. last;
}

a_call_too_deep : map (λ last. first_cause (is_fault (deep last) (before_of (Policy (codes "A") ∷ [])) (asks_unnamed (calls (codes "S"))))) (true ∷ false ∷ []) ≡ Some TooDeep ∷ None ∷ []
unfolding first_cause term_before goes_on_before definition_before has_term
a_call_too_deep = refl
