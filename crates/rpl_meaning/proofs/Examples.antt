-- Worked examples that the checker computes.
use Rattle.std.proofs.Common.{◌≡◌, refl, ℕ, Bool, true, false, List, [], ◌∷◌, ◌++◌}
use Rattle.std.specs.Prelude.{codes}
use Rattle.route_types.specs.Words.{number_in}
use Rattle.route_types.specs.Route.{RouteParts}
use Rattle.route_types.specs.declared.address.Family.TheVariants.{V4}
use Rattle.route_types.specs.declared.community.Community.{Community}
use Rattle.route_types.specs.declared.route.NextHop.TheVariants.{Own}
use Rattle.route_types.specs.declared.route.Origin.TheVariants.{Igp}
use Rattle.route_types.specs.declared.route.Outcome.TheVariants.{Reject, Accept}
use Rattle.rpl_words.specs.declared.condition.RplTest.TheVariants.{MatchesAny, MatchesEvery, Med}
use Rattle.rpl_words.specs.declared.condition.Term.TheVariants.{Test}
use Rattle.rpl_words.specs.declared.element.Comparison.TheVariants.{Equal}
use Rattle.rpl_words.specs.declared.number.RplNumber.TheVariants.{Fixed, Parameter as GivenNumber}
use Rattle.rpl_words.specs.declared.number.RplSet.TheVariants.{Named, Listed}
use Rattle.rpl_forms.specs.declared.item.Action.{Action}
use Rattle.rpl_forms.specs.declared.item.Action.TheVariants.{SetMed, SetLocalPreference, SetCommunity, Prepend}
use Rattle.rpl_forms.specs.declared.item.Argument.{Argument}
use Rattle.rpl_forms.specs.declared.item.Argument.TheVariants.{Written}
use Rattle.rpl_forms.specs.declared.item.Header.TheVariants.{CommunitySet, Policy}
use Rattle.rpl_forms.specs.declared.item.PolicyStatement.TheVariants.{If, ElseIf, Else, EndIf, Pass, Done, Drop, Act, Apply}
use Rattle.rpl_forms.specs.declared.item.RplForm.{RplForm}
use Rattle.rpl_forms.specs.declared.item.RplForm.TheVariants.{Header, Statement, End}
use Rattle.rpl_tree.specs.Nesting.{nested}
use Rattle.rpl_meaning.specs.Sets.{block_at, elements, handed, unbound}
use Rattle.rpl_meaning.specs.Conditions.{terms_hold, test_holds}
use Rattle.rpl_meaning.specs.Meaning.{repeated, run, run_levels, run_policy, rpl_meaning}

abbrev route : ℕ → List Community → RouteParts
route med communities = record { prefix = record { address = record { family = V4; bits = 167772160 }; length = 8 }; next_hop = Own; path = 65001 ∷ []; origin = Igp; local_preference = 100; med = med; weight = 0; communities = communities }

abbrev policy : List ℕ → List (List ℕ) → List RplForm → List RplForm
policy name parameters body = Header (Policy (record { name = name; parameters = parameters })) ∷ body

abbrev does : Action → RplForm
does a = Statement (Act a)

abbrev applies : List ℕ → List Argument → RplForm
applies name arguments = Statement (Apply (record { policy = name; arguments = arguments }))

abbrev if_med : ℕ → RplForm
if_med n = Statement (If (Test (Med (record { comparison = Equal; med = Fixed n })) ∷ []))

-- ---- tests read the route as it arrived

abbrev sets_and_asks : List RplForm
sets_and_asks = policy (codes "P") [] (does (SetMed (Fixed 50)) ∷ if_med 50 ∷ Statement Drop ∷ Statement EndIf ∷ End ∷ [])

asks_10 : rpl_meaning sets_and_asks (codes "P") (route 10 []) ≡ Accept (route 50 [])
unfolding rpl_meaning run_policy block_at nested run run_levels terms_hold
asks_10 = refl

asks_50 : rpl_meaning sets_and_asks (codes "P") (route 50 []) ≡ Reject
unfolding rpl_meaning run_policy block_at nested run run_levels terms_hold
asks_50 = refl

-- ---- the ticket

-- `pass` alone accepts every route unchanged
passes : (r : RouteParts) → rpl_meaning (policy (codes "P") [] (Statement Pass ∷ End ∷ [])) (codes "P") r ≡ Accept r
unfolding rpl_meaning run_policy block_at nested run run_levels
passes r = refl

-- without statements every route is rejected
does_nothing : (r : RouteParts) → rpl_meaning (policy (codes "P") [] (End ∷ [])) (codes "P") r ≡ Reject
unfolding rpl_meaning run_policy block_at nested run run_levels
does_nothing r = refl

-- ---- branches

abbrev branches : List RplForm
branches =
    policy (codes "P") []
    (if_med 1 ∷ does (SetMed (Fixed 11)) ∷ Statement (ElseIf (Test (Med (record { comparison = Equal; med = Fixed 2 })) ∷ [])) ∷ does (SetMed (Fixed 12)) ∷ Statement Else ∷ does (SetMed (Fixed 13)) ∷ Statement EndIf ∷ End ∷ [])

first_branch : rpl_meaning branches (codes "P") (route 1 []) ≡ Accept (route 11 [])
unfolding rpl_meaning run_policy block_at nested run run_levels terms_hold
first_branch = refl

second_branch : rpl_meaning branches (codes "P") (route 2 []) ≡ Accept (route 12 [])
unfolding rpl_meaning run_policy block_at nested run run_levels terms_hold
second_branch = refl

last_branch : rpl_meaning branches (codes "P") (route 3 []) ≡ Accept (route 13 [])
unfolding rpl_meaning run_policy block_at nested run run_levels terms_hold
last_branch = refl

-- ---- applied policies: `done` within ends the whole run, each with its own argument

abbrev sets_preference : List RplForm
sets_preference =
    policy (codes "SETLP") (codes "x" ∷ []) (does (SetLocalPreference (GivenNumber (codes "x"))) ∷ Statement Done ∷ End ∷ [])
    ++ policy (codes "P") [] (applies (codes "SETLP") (Written (codes "300") ∷ []) ∷ Statement Drop ∷ End ∷ [])

ends_the_run : (r : RouteParts) → rpl_meaning sets_preference (codes "P") r ≡ Accept (record r { local_preference = 300 })
unfolding rpl_meaning run_policy block_at nested run run_levels handed number_in
ends_the_run r = refl

abbrev prepends : List RplForm
prepends =
    policy (codes "TWICE") (codes "n" ∷ []) (does (Prepend (record { number = GivenNumber (codes "n"); count = Fixed 2 })) ∷ End ∷ [])
    ++ policy (codes "P") [] (applies (codes "TWICE") (Written (codes "7") ∷ []) ∷ applies (codes "TWICE") (Written (codes "8") ∷ []) ∷ End ∷ [])

each_argument : rpl_meaning prepends (codes "P") (route 10 []) ≡ Accept (record (route 10 []) { path = 8 ∷ 8 ∷ 7 ∷ 7 ∷ 65001 ∷ [] })
unfolding rpl_meaning run_policy block_at nested run run_levels handed number_in repeated
each_argument = refl

-- ---- communities

-- a set without elements: every one of none fits, and no one does
abbrev no_elements : List RplForm
no_elements = Header (CommunitySet (codes "C")) ∷ End ∷ []

every_one : (r : RouteParts) → test_holds no_elements unbound r (MatchesEvery (Named (codes "C"))) ≡ true
unfolding block_at elements
every_one r = refl

no_one : (r : RouteParts) → test_holds no_elements unbound r (MatchesAny (Named (codes "C"))) ≡ false
unfolding block_at elements
no_one r = refl

-- what is set takes the place of all others, the well-known ones included
abbrev set_alone : Bool → List RplForm
set_alone additive =
    policy (codes "P") []
    (does (SetCommunity (record { set = Listed (record { high_least = 0; high_most = 0; low_least = 5; low_most = 5 } ∷ []); additive = additive })) ∷ End ∷ [])

replaced : rpl_meaning (set_alone false) (codes "P") (route 10 (record { 0 = 4294967041 } ∷ [])) ≡ Accept (route 10 (record { 0 = 5 } ∷ []))
unfolding rpl_meaning run_policy block_at nested run run_levels
replaced = refl

added : rpl_meaning (set_alone true) (codes "P") (route 10 (record { 0 = 4294967041 } ∷ [])) ≡ Accept (route 10 (record { 0 = 5 } ∷ record { 0 = 4294967041 } ∷ []))
unfolding rpl_meaning run_policy block_at nested run run_levels
added = refl
