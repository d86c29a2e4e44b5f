-- Worked examples of planned policies as forms.
use Rattle.std.proofs.Common.{◌≡◌, refl, ℕ, Bool, true, false, List, [], ◌∷◌, Some, None}
use Rattle.std.specs.Prelude.{codes}
use Rattle.std.specs.Fmt.{digits}
use Rattle.prefix_sets.specs.Range.{RangeParts}
use Rattle.route_types.specs.Community.{RectParts}
use Rattle.route_types.specs.declared.address.Family.TheVariants.{V4}
use Rattle.rpl_words.specs.Conditions.{terms_of}
use Rattle.rpl_words.specs.declared.condition.RplTest.TheVariants.{Destination as InSet, PathIn as PathInSet, MatchesAny as AnyOfSet, IsEmpty}
use Rattle.rpl_words.specs.declared.condition.Term.TheVariants.{Test, Group, Not, And, Or}
use Rattle.rpl_words.specs.declared.number.RplNumber.TheVariants.{Fixed}
use Rattle.rpl_words.specs.declared.number.RplSet.TheVariants.{Named, Listed}
use Rattle.rpl_forms.specs.declared.item.Action.TheVariants.{SetLocalPreference, SetCommunity, DeleteCommunity, Prepend}
use Rattle.rpl_forms.specs.declared.item.Header.TheVariants.{PrefixSet, CommunitySet, PathSet, Policy}
use Rattle.rpl_forms.specs.declared.item.PolicyStatement.TheVariants.{If, EndIf, Done, Drop, Act}
use Rattle.rpl_forms.specs.declared.item.RplForm.TheVariants.{Header, Element, Statement, End}
use Rattle.rpl_words.specs.declared.element.Element.TheVariants.{Prefix, Community, Path}
use Rattle.rpl_plans.specs.declared.actions.PlannedActions.{PlannedActions}
use Rattle.rpl_plans.specs.declared.choice.PlannedTerm.{PlannedTerm}
use Rattle.rpl_plans.specs.declared.step.PlannedLiteral.{PlannedLiteral}
use Rattle.rpl_plans.specs.declared.step.PlannedStep.{PlannedStep}
use Rattle.rpl_plans.specs.declared.test.PlannedTest.{PlannedTest}
use Rattle.rpl_plans.specs.declared.test.PlannedTest.TheVariants.{Destination, PathIn, MatchesAny}
use Rattle.rpl_layout.specs.Forms.{range_element, path_element, prefix_name, community_name, path_name, blocks_from, forms_of}
use Rattle.rpl_layout.specs.Guards.{Writing, joined_from, guard_condition}
use Rattle.rpl_layout.specs.Sharing.{noted_all, place_in}
use Rattle.rpl_layout.specs.Statements.{prepends_from, prepends_of, community_actions, actions_of, steps_forms}

-- ---- conditions

-- any test by a name of its sort
written : Writing
written (Destination []) = InSet (Named (codes "empty"))
written (Destination (x ∷ [])) = InSet (Named (codes "one"))
written (Destination (x ∷ y ∷ xs)) = InSet (Named (codes "two"))
written (PathIn ts) = PathInSet (Named (codes "path"))
written (MatchesAny rs) = AnyOfSet (Named (codes "tag"))
written t = IsEmpty

range : ℕ → ℕ → ℕ → ℕ → RangeParts
range bits length least most = record { prefix = record { address = record { family = V4; bits = bits }; length = length }; least = least; most = most }

one : PlannedTest
one = Destination (range 0 0 0 32 ∷ [])

two : PlannedTest
two = Destination (range 0 0 0 32 ∷ range 0 0 0 24 ∷ [])

plain : PlannedTest → PlannedTerm
plain t = record { denied = []; permitted = t }

literal : Bool → PlannedTerm → List PlannedTerm → PlannedLiteral
literal wanted t ts = record { terms = record { first = t; others = ts }; wanted = wanted }

-- deny before a wider permit: `not destination in one and destination in two`
deny_first : terms_of (guard_condition written (literal true (record { denied = one ∷ []; permitted = two }) []) [])
    ≡ (Test (InSet (Named (codes "one"))) ∷ Not ∷ Test (InSet (Named (codes "two"))) ∷ And ∷ [])
unfolding terms_of joined_from written one two literal
deny_first = refl

-- two literals: `destination in one and as-path in path`
two_literals : terms_of (guard_condition written (literal true (plain one) []) (literal true (plain (PathIn [])) [] ∷ []))
    ≡ (Test (InSet (Named (codes "one"))) ∷ Test (PathInSet (Named (codes "path"))) ∷ And ∷ [])
unfolding terms_of joined_from written one plain literal
two_literals = refl

-- a literal with `or` alone, and in parentheses among others
or_alone : terms_of (guard_condition written (literal true (plain one) (plain two ∷ [])) [])
    ≡ (Test (InSet (Named (codes "one"))) ∷ Test (InSet (Named (codes "two"))) ∷ Or ∷ [])
unfolding terms_of joined_from written one two plain literal
or_alone = refl

or_among : terms_of (guard_condition written (literal true (plain one) (plain two ∷ [])) (literal true (plain (MatchesAny [])) [] ∷ []))
    ≡ (Test (InSet (Named (codes "one"))) ∷ Test (InSet (Named (codes "two"))) ∷ Or ∷ Group ∷ Test (AnyOfSet (Named (codes "tag"))) ∷ And ∷ [])
unfolding terms_of joined_from written one two plain literal
or_among = refl

-- `not destination in one`, and `not (destination in one or destination in two)`
not_one : terms_of (guard_condition written (literal false (plain one) []) []) ≡ (Test (InSet (Named (codes "one"))) ∷ Not ∷ [])
unfolding terms_of joined_from written one plain literal
not_one = refl

not_more : terms_of (guard_condition written (literal false (plain one) (plain two ∷ [])) [])
    ≡ (Test (InSet (Named (codes "one"))) ∷ Test (InSet (Named (codes "two"))) ∷ Or ∷ Group ∷ Not ∷ [])
unfolding terms_of joined_from written one two plain literal
not_more = refl

-- ---- names and actions

names : (prefix_name (codes "CUST") 0 ≡ codes "CUST-p1") × (community_name (codes "CUST") 0 ≡ codes "CUST-c1") × (path_name (codes "CUST") 1 ≡ codes "CUST-a2")
unfolding digits
names = (refl, refl, refl)

nothing : PlannedActions
nothing = record { local_preference = None; med = None; weight = None; origin = None; next_hop = None; prepended = []; communities = None }

rect : ℕ → ℕ → ℕ → ℕ → RectParts
rect a b c d = record { high_least = a; high_most = b; low_least = c; low_most = d }

-- local preference 200 and 65000:100 added
preference_and_tag : actions_of (record nothing { local_preference = Some 200; communities = Some (record { removed = []; added = record { 0 = 4259840100 } ∷ [] }) })
    ≡ (SetLocalPreference (Fixed 200) ∷ SetCommunity (record { set = Listed (rect 65000 65000 100 100 ∷ []); additive = true }) ∷ [])
unfolding nothing rect
preference_and_tag = refl

-- everything removed: replaced, or deleted as `*:*`
replaced : community_actions (Some (record { removed = rect 0 65535 0 65535 ∷ []; added = record { 0 = 65536 } ∷ [] }))
    ≡ (SetCommunity (record { set = Listed (rect 1 1 0 0 ∷ []); additive = false }) ∷ [])
unfolding rect
replaced = refl

deleted : community_actions (Some (record { removed = rect 5 5 0 9 ∷ rect 0 65535 0 65535 ∷ []; added = [] })) ≡ (DeleteCommunity (Listed (rect 0 65535 0 65535 ∷ [])) ∷ [])
unfolding rect
deleted = refl

-- the same number twice, and another
twice : prepends_of (7 ∷ 7 ∷ 8 ∷ []) ≡ (Prepend (record { number = Fixed 7; count = Fixed 2 }) ∷ Prepend (record { number = Fixed 8; count = Fixed 1 }) ∷ [])
unfolding prepends_from
twice = refl

-- ---- a policy: a router's customers, whose third step has no guard

range_of_customers : RangeParts
range_of_customers = range 3405803776 24 24 28

customers : List PlannedStep
customers =
    record { guard = literal true (plain (MatchesAny (rect 65000 65000 666 666 ∷ []))) [] ∷ []; actions = nothing; accept = false }
    ∷ record {
      guard = literal true (plain (Destination (range_of_customers ∷ []))) [] ∷ literal true (plain (PathIn (codes "^65001(_65001)*$" ∷ []))) [] ∷ [];
      actions = record nothing { local_preference = Some 200; communities = Some (record { removed = []; added = record { 0 = 4259840100 } ∷ [] }) };
      accept = true;
    }
    ∷ record { guard = []; actions = nothing; accept = false }
    ∷ []

by_name : Writing
by_name (Destination xs) = InSet (Named (codes "CUST-p1"))
by_name (PathIn ts) = PathInSet (Named (codes "CUST-a1"))
by_name t = AnyOfSet (Named (codes "CUST-c1"))

customers_forms : forms_of (codes "CUST") (record { prefixes = (range_of_customers ∷ []) ∷ []; communities = (rect 65000 65000 666 666 ∷ []) ∷ []; paths = (codes "^65001(_65001)*$" ∷ []) ∷ [] }) by_name customers
    ≡ (Header (PrefixSet (codes "CUST-p1")) ∷ Element (Prefix (range_element range_of_customers)) ∷ End
    ∷ Header (CommunitySet (codes "CUST-c1")) ∷ Element (Community (rect 65000 65000 666 666)) ∷ End
    ∷ Header (PathSet (codes "CUST-a1")) ∷ Element (Path (path_element (codes "^65001(_65001)*$"))) ∷ End
    ∷ Header (Policy (record { name = codes "CUST"; parameters = [] }))
    ∷ Statement (If (Test (AnyOfSet (Named (codes "CUST-c1"))) ∷ [])) ∷ Statement Drop ∷ Statement EndIf
    ∷ Statement (If (Test (InSet (Named (codes "CUST-p1"))) ∷ Test (PathInSet (Named (codes "CUST-a1"))) ∷ And ∷ []))
    ∷ Statement (Act (SetLocalPreference (Fixed 200))) ∷ Statement (Act (SetCommunity (record { set = Listed (rect 65000 65000 100 100 ∷ []); additive = true })))
    ∷ Statement Done ∷ Statement EndIf
    ∷ Statement Drop ∷ End ∷ [])
unfolding digits blocks_from steps_forms terms_of joined_from customers by_name nothing plain literal rect
customers_forms = refl

-- ---- a list of one deny entry: the test of an empty set, whose block has no elements

only_deny : forms_of (codes "M") (record { prefixes = [] ∷ []; communities = []; paths = [] }) (λ t. InSet (Named (codes "M-p1")))
    (record { guard = literal true (plain (Destination [])) [] ∷ []; actions = nothing; accept = true } ∷ record { guard = []; actions = nothing; accept = false } ∷ [])
    ≡ (Header (PrefixSet (codes "M-p1")) ∷ End
    ∷ Header (Policy (record { name = codes "M"; parameters = [] }))
    ∷ Statement (If (Test (InSet (Named (codes "M-p1"))) ∷ [])) ∷ Statement Done ∷ Statement EndIf ∷ Statement Drop ∷ End ∷ [])
unfolding digits blocks_from steps_forms terms_of joined_from nothing plain literal
only_deny = refl

-- ---- sets are named by first use, each once

same_ranges : List RangeParts → List RangeParts → Bool
same_ranges [] [] = true
same_ranges (x ∷ xs) (y ∷ ys) = true
same_ranges _ _ = false

by_first_use : (noted_all same_ranges [] ((range 0 0 0 32 ∷ []) ∷ [] ∷ (range 0 0 0 32 ∷ []) ∷ []) ≡ ((range 0 0 0 32 ∷ []) ∷ [] ∷ []))
    × (place_in (same_ranges []) ((range 0 0 0 32 ∷ []) ∷ [] ∷ []) ≡ 1)
unfolding noted_all place_in same_ranges
by_first_use = (refl, refl)
