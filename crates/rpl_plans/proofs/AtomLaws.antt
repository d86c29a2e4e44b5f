-- The terms of a test hold exactly where the test does.
use Rattle.std.proofs.Common.{◌≡◌, refl, ap, subst, ◌∙◌, ℕ, ◌≤◌, ◌<◌, length, Bool, true, false, ◌||◌, ◌==◌, List, [], ◌∷◌, ◌++◌, arith}
use Rattle.std.specs.List.{list_any, list_all}
use Rattle.std.proofs.lemmas.Bool.{and_parts}
use Rattle.std.proofs.lemmas.List.Folds.{list_any-append}
use Rattle.community_sets.specs.Tests.{list_answers}
use Rattle.community_sets.specs.declared.list.CommList.{CommList}
use Rattle.core_nodes.specs.Atoms.{same_origin, is_empty}
use Rattle.policy_core.specs.Sayable.{is_all_of, lists_are}
use Rattle.prefix_sets.specs.FirstMatch.{first_match, hop_match}
use Rattle.prefix_sets.specs.declared.list.PrefixList.{PrefixList}
use Rattle.route_types.specs.Address.{width}
use Rattle.route_types.specs.Route.{RouteParts, InRange}
use Rattle.route_types.specs.declared.community.Community.{Community}
use Rattle.route_types.specs.declared.route.NextHop.{NextHop}
use Rattle.route_types.specs.declared.route.NextHop.TheVariants.{At, Own}
use Rattle.route_types.specs.declared.route.Origin.{Origin}
use Rattle.route_types.specs.declared.route.Origin.TheVariants.{Igp, Egp, Incomplete}
use Rattle.rpl_plans.specs.Choices.{first_choice, term_holds, terms_hold, terms_of_list, grouped, or_never, alone}
use Rattle.rpl_plans.specs.Entries.{prefix_choices, comm_choices, prefix_terms, comm_terms, med_terms}
use Rattle.rpl_plans.specs.Holds.{hop_in, one_origin, planned_holds}
use Rattle.rpl_plans.specs.declared.choice.Choice.{Choice}
use Rattle.rpl_plans.specs.declared.choice.PlannedTerm.{PlannedTerm}
use Rattle.rpl_plans.specs.declared.test.PlannedTest.{PlannedTest}
use Rattle.rpl_plans.specs.declared.test.PlannedTest.TheVariants.{Destination, NextHop as AsksNextHop, PathIn, MatchesAny, NoCommunity, Origin as AsksOrigin}
use Rattle.rpl_plans.specs.declared.test.RouteAddress.TheVariants.{Destination as OfDestination, NextHop as OfNextHop}
use Rattle.rpl_plans.proofs.FirstChoice.{list_terms, groups_decide}
use Rattle.rpl_plans.proofs.EntryLaws.{joins_right, prefix_decides, hop_decides, comm_decides}

pub or_none : (b : Bool) → (b || false) ≡ b
or_none true = refl
or_none false = refl

pub or_three : (a b c : Bool) → ((a || b) || c) ≡ (a || (b || c))
or_three true b c = refl
or_three false b c = refl

pub none_left : {A : Type 0} (xs : List A) → length xs < 1 → xs ≡ []
none_left [] h = refl
none_left (x ∷ xs) h = absurd (omega arith)

-- the terms of a list hold where it answers yes
pub list_decides : (r : RouteParts) (cs : List Choice) → list_any (term_holds (planned_holds r)) (terms_of_list cs) ≡ first_choice (planned_holds r) cs
list_decides r cs = list_terms (planned_holds r) (grouped cs) ∙ groups_decide (planned_holds r) (λ t u v e. joins_right r t u v e) cs

-- behind other terms
pub list_behind : (r : RouteParts) (ts : List PlannedTerm) (cs : List Choice)
    → list_any (term_holds (planned_holds r)) (ts ++ terms_of_list cs) ≡ (list_any (term_holds (planned_holds r)) ts || first_choice (planned_holds r) cs)
list_behind r ts cs =
    list_any-append (term_holds (planned_holds r)) ts (terms_of_list cs)
    ∙ ap (λ b. list_any (term_holds (planned_holds r)) ts || b) (list_decides r cs)

-- a test that never holds adds nothing
pub never_adds : (holds : PlannedTest → Bool) (never : PlannedTest) (ts : List PlannedTerm) → holds never ≡ false → terms_hold holds (or_never never ts) ≡ list_any (term_holds holds) ts
never_adds holds never [] e = or_none (holds never) ∙ e
never_adds holds never (t ∷ ts) e = refl

pub alone_holds : (holds : PlannedTest → Bool) (t : PlannedTest) → terms_hold holds (alone t) ≡ holds t
alone_holds holds t = or_none (holds t)

-- ---- lists

prefix_lists : (r : RouteParts) (ls : List PrefixList) → r.prefix.length ≤ 32 → list_any (term_holds (planned_holds r)) (prefix_terms OfDestination ls) ≡ list_any (λ l. first_match l.entries r.prefix) ls
unfolding prefix_terms
prefix_lists r [] h = refl
prefix_lists r (l ∷ ls) h =
    list_any-append (term_holds (planned_holds r)) (terms_of_list (prefix_choices OfDestination l.entries)) (prefix_terms OfDestination ls)
    ∙ ap (λ b. b || list_any (term_holds (planned_holds r)) (prefix_terms OfDestination ls)) (list_decides r (prefix_choices OfDestination l.entries) ∙ prefix_decides r l.entries h)
    ∙ ap (λ b. first_match l.entries r.prefix || b) (prefix_lists r ls h)

hop_lists : (r : RouteParts) (ls : List PrefixList) → InRange r → list_any (term_holds (planned_holds r)) (prefix_terms OfNextHop ls) ≡ list_any (λ l. hop_match l.entries r.next_hop) ls
unfolding prefix_terms
hop_lists r [] h = refl
hop_lists r (l ∷ ls) h =
    list_any-append (term_holds (planned_holds r)) (terms_of_list (prefix_choices OfNextHop l.entries)) (prefix_terms OfNextHop ls)
    ∙ ap (λ b. b || list_any (term_holds (planned_holds r)) (prefix_terms OfNextHop ls)) (list_decides r (prefix_choices OfNextHop l.entries) ∙ hop_decides r r.next_hop l.entries refl h.next_hop)
    ∙ ap (λ b. hop_match l.entries r.next_hop || b) (hop_lists r ls h)

comm_lists : (r : RouteParts) (ls : List CommList) → lists_are is_all_of ls ≡ true → list_any (term_holds (planned_holds r)) (comm_terms ls) ≡ list_any (λ l. list_answers l.entries r.communities) ls
unfolding comm_terms
comm_lists r [] h = refl
comm_lists r (l ∷ ls) h =
    let parts = and_parts (list_all (λ e. is_all_of e.test) l.entries) (lists_are is_all_of ls) h in
    list_any-append (term_holds (planned_holds r)) (terms_of_list (comm_choices l.entries)) (comm_terms ls)
    ∙ ap (λ b. b || list_any (term_holds (planned_holds r)) (comm_terms ls)) (list_decides r (comm_choices l.entries) ∙ comm_decides r l.entries parts.0)
    ∙ ap (λ b. list_answers l.entries r.communities || b) (comm_lists r ls parts.1)

med_numbers : (r : RouteParts) (ns : List ℕ) → list_any (term_holds (planned_holds r)) (med_terms ns) ≡ list_any (λ n. r.med == n) ns
unfolding med_terms
med_numbers r [] = refl
med_numbers r (n ∷ ns) = ap (λ b. (r.med == n) || b) (med_numbers r ns)

-- ---- tests

short : (r : RouteParts) → InRange r → r.prefix.length ≤ 32
short r h = subst (λ f. r.prefix.length ≤ width f) h.family h.prefix.within

no_hop : (h : NextHop) → hop_in [] h ≡ false
no_hop (At a) = refl
no_hop Own = refl

pub destination_says : (r : RouteParts) (ls : List PrefixList) → InRange r → terms_hold (planned_holds r) (or_never (Destination []) (prefix_terms OfDestination ls)) ≡ list_any (λ l. first_match l.entries r.prefix) ls
destination_says r ls h = never_adds (planned_holds r) (Destination []) (prefix_terms OfDestination ls) refl ∙ prefix_lists r ls (short r h)

pub hop_says : (r : RouteParts) (ls : List PrefixList) → InRange r → terms_hold (planned_holds r) (or_never (AsksNextHop []) (prefix_terms OfNextHop ls)) ≡ list_any (λ l. hop_match l.entries r.next_hop) ls
hop_says r ls h = never_adds (planned_holds r) (AsksNextHop []) (prefix_terms OfNextHop ls) (no_hop r.next_hop) ∙ hop_lists r ls h

pub comm_says : (r : RouteParts) (ls : List CommList) → lists_are is_all_of ls ≡ true → terms_hold (planned_holds r) (or_never (MatchesAny []) (comm_terms ls)) ≡ list_any (λ l. list_answers l.entries r.communities) ls
comm_says r ls h = never_adds (planned_holds r) (MatchesAny []) (comm_terms ls) refl ∙ comm_lists r ls h

pub med_says : (r : RouteParts) (ns : List ℕ) → terms_hold (planned_holds r) (or_never (Destination []) (med_terms ns)) ≡ list_any (λ n. r.med == n) ns
med_says r ns = never_adds (planned_holds r) (Destination []) (med_terms ns) refl ∙ med_numbers r ns

pub path_never : (r : RouteParts) (ts : List PlannedTerm) → terms_hold (planned_holds r) (or_never (PathIn []) ts) ≡ list_any (term_holds (planned_holds r)) ts
path_never r ts = never_adds (planned_holds r) (PathIn []) ts refl

pub origins_same : (a b : Origin) → one_origin a b ≡ same_origin a b
origins_same Igp Igp = refl
origins_same Igp Egp = refl
origins_same Igp Incomplete = refl
origins_same Egp Igp = refl
origins_same Egp Egp = refl
origins_same Egp Incomplete = refl
origins_same Incomplete Igp = refl
origins_same Incomplete Egp = refl
origins_same Incomplete Incomplete = refl

none_same : (cs : List Community) → (elim cs [ [] ↦ true | c ∷ ds ↦ false ]) ≡ is_empty cs
none_same [] = refl
none_same (c ∷ cs) = refl

pub origin_says : (r : RouteParts) (o : Origin) → terms_hold (planned_holds r) (alone (AsksOrigin o)) ≡ same_origin r.origin o
origin_says r o = or_none (one_origin r.origin o) ∙ origins_same r.origin o

pub none_says : (r : RouteParts) → terms_hold (planned_holds r) (alone NoCommunity) ≡ is_empty r.communities
none_says r = alone_holds (planned_holds r) NoCommunity ∙ none_same r.communities
