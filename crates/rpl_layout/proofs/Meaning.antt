-- The forms of a plan mean what the plan says.
use Rattle.std.proofs.Common.{◌≡◌, refl, ap, ◌∙◌, ℕ, Bool, true, false, ◌&&◌, ◌||◌, not, ◌==◌, List, [], ◌∷◌, length, map, Option, Some, None, arith, ne_eqb}
use Rattle.std.specs.Bool.{beq}
use Rattle.std.specs.List.{list_any, list_all, AllByRecursion}
use Rattle.path_patterns.specs.Finds.{finds_in, found_in}
use Rattle.aspath_text.specs.IosRead.{ios_pattern_in}
use Rattle.path_patterns.specs.declared.pattern.IosBranch.{IosBranch}
use Rattle.prefix_sets.specs.Range.{RangeParts, in_range}
use Rattle.route_types.specs.Address.{PrefixParts, full_prefix}
use Rattle.route_types.specs.Community.{RectParts}
use Rattle.route_types.specs.Route.{RouteParts, InRange}
use Rattle.route_types.specs.declared.community.Community.{Community}
use Rattle.route_types.specs.declared.route.NextHop.{NextHop as Hop}
use Rattle.route_types.specs.declared.route.NextHop.TheVariants.{At, Own}
use Rattle.route_types.specs.declared.route.Origin.{Origin as RouteOrigin}
use Rattle.route_types.specs.declared.route.Origin.TheVariants.{Igp, Egp, Incomplete}
use Rattle.route_types.specs.declared.route.Outcome.{Outcome}
use Rattle.rpl_words.specs.declared.condition.RplTest.{RplTest}
use Rattle.rpl_words.specs.declared.element.PathElement.{PathElement}
use Rattle.rpl_words.specs.declared.element.PrefixElement.{PrefixElement}
use Rattle.rpl_forms.specs.declared.item.RplForm.{RplForm}
use Rattle.rpl_meaning.specs.Conditions.{some_holds, some_holds_hop, path_element_holds, same_origin, some_fits, test_holds, terms_hold}
use Rattle.rpl_meaning.specs.Meaning.{acted, run, run_rest, run_policy, handed_on, arriving, at_end, rpl_meaning}
use Rattle.rpl_meaning.specs.Sets.{unbound}
use Rattle.rpl_meaning.proofs.ConditionLaws.{terms_answer}
use Rattle.rpl_tree.specs.Nesting.{nested}
use Rattle.rpl_plans.specs.Actions.{acted_by}
use Rattle.rpl_plans.specs.Choices.{term_holds, terms_hold as planned_terms_hold}
use Rattle.rpl_plans.specs.Holds.{hop_in, text_finds, one_origin, planned_holds}
use Rattle.rpl_plans.specs.Plans.{literal_says, guard_says, ended_by, planned_outcome}
use Rattle.rpl_plans.specs.declared.choice.PlannedTerm.{PlannedTerm}
use Rattle.rpl_plans.specs.declared.choice.PlannedTerms.{PlannedTerms}
use Rattle.rpl_plans.specs.declared.step.PlannedLiteral.{PlannedLiteral}
use Rattle.rpl_plans.specs.declared.step.PlannedStep.{PlannedStep}
use Rattle.rpl_plans.specs.declared.test.PlannedTest.{PlannedTest}
use Rattle.rpl_plans.specs.declared.test.PlannedTest.TheVariants.{Destination, NextHop, PathIn, MatchesAny, MatchesEvery, NoCommunity, MedIs, MedAtLeast, MedAtMost, Origin}
use Rattle.rpl_layout.specs.Forms.{range_element, path_element, PlannedSets, Writes, HasFew, forms_of}
use Rattle.rpl_layout.specs.Guards.{Writing}
use Rattle.rpl_layout.specs.Tests.{EachOfTerm, EachOfTerms, EachTest}
use Rattle.rpl_layout.proofs.ActionRuns.{actions_run}
use Rattle.rpl_layout.proofs.GuardLaws.{guard_answers}
use Rattle.rpl_layout.proofs.Lookups.{prefix_members, community_members, path_members, body_is}
use Rattle.rpl_layout.proofs.RunLaws.{statements_run}

-- ---- elements

any_map : {A B : Type 0} (f : B → Bool) (g : A → B) (xs : List A) → list_any f (map g xs) ≡ list_any (λ x. f (g x)) xs
any_map f g [] = refl
any_map f g (x ∷ xs) = ap (λ b. f (g x) || b) (any_map f g xs)

any_same : {A : Type 0} (f g : A → Bool) → ((x : A) → f x ≡ g x) → (xs : List A) → list_any f xs ≡ list_any g xs
any_same f g same [] = refl
any_same f g same (x ∷ xs) = ap (λ b. b || list_any f xs) (same x) ∙ ap (λ b. g x || b) (any_same f g same xs)

ranges_hold : (xs : List RangeParts) (p : PrefixParts) → some_holds unbound (map range_element xs) p ≡ list_any (λ x. in_range x p) xs
ranges_hold xs p = any_map (λ e. in_range (record { prefix = e.prefix; least = _; most = _ }) p) range_element xs

hops_hold : (xs : List RangeParts) (h : Hop) → some_holds_hop unbound (map range_element xs) h ≡ hop_in xs h
hops_hold xs (At a) = ranges_hold xs (full_prefix a)
hops_hold xs Own = refl

pattern_found : (path : List ℕ) (text : List ℕ) (o : Option (List IosBranch)) → finds_in (elim o [ None ↦ [] | Some p ↦ p ]) path ≡ elim o [ None ↦ false | Some p ↦ finds_in p path ]
unfolding finds_in found_in
pattern_found path text None = refl
pattern_found path text (Some p) = refl

paths_hold : (ts : List (List ℕ)) (path : List ℕ) → list_any (path_element_holds unbound path) (map path_element ts) ≡ list_any (λ t. text_finds t path) ts
paths_hold ts path =
    any_map (path_element_holds unbound path) path_element ts
    ∙ any_same (λ t. path_element_holds unbound path (path_element t)) (λ t. text_finds t path) (λ t. pattern_found path t (ios_pattern_in t)) ts

origins_same : (a b : RouteOrigin) → same_origin a b ≡ one_origin a b
origins_same Igp Igp = refl
origins_same Igp Egp = refl
origins_same Igp Incomplete = refl
origins_same Egp Igp = refl
origins_same Egp Egp = refl
origins_same Egp Incomplete = refl
origins_same Incomplete Igp = refl
origins_same Incomplete Egp = refl
origins_same Incomplete Incomplete = refl

none_there : (cs : List Community) → (length cs == 0) ≡ (elim cs [ [] ↦ true | c ∷ ds ↦ false ])
none_there [] = refl
none_there (c ∷ cs) = ne_eqb (length (c ∷ cs)) 0 (λ e. omega arith)

-- ---- tests

module _ (name : List ℕ) (sets : PlannedSets) (written : Writing) (steps : List PlannedStep) (few : HasFew sets) (r : RouteParts) where
  -- a test that names a set of the plan holds where the planned test does
  test_written : (t : PlannedTest) (u : RplTest) → Writes name sets t u → test_holds (forms_of name sets written steps) unbound r u ≡ planned_holds r t
  test_written (Destination rs) u (n, there, is) =
      ap (λ (v : RplTest). test_holds (forms_of name sets written steps) unbound r v) is
      ∙ ap (λ (es : List PrefixElement). some_holds unbound es r.prefix) (prefix_members name sets written steps few n rs there)
      ∙ ranges_hold rs r.prefix
  test_written (NextHop rs) u (n, there, is) =
      ap (λ (v : RplTest). test_holds (forms_of name sets written steps) unbound r v) is
      ∙ ap (λ (es : List PrefixElement). some_holds_hop unbound es r.next_hop) (prefix_members name sets written steps few n rs there)
      ∙ hops_hold rs r.next_hop
  test_written (PathIn ts) u (n, there, is) =
      ap (λ (v : RplTest). test_holds (forms_of name sets written steps) unbound r v) is
      ∙ ap (λ (es : List PathElement). list_any (path_element_holds unbound r.path) es) (path_members name sets written steps few n ts there)
      ∙ paths_hold ts r.path
  test_written (MatchesAny rs) u (n, there, is) =
      ap (λ (v : RplTest). test_holds (forms_of name sets written steps) unbound r v) is
      ∙ ap (λ (es : List RectParts). list_any (some_fits r.communities) es) (community_members name sets written steps few n rs there)
  test_written (MatchesEvery rs) u (n, there, is) =
      ap (λ (v : RplTest). test_holds (forms_of name sets written steps) unbound r v) is
      ∙ ap (λ (es : List RectParts). list_all (some_fits r.communities) es) (community_members name sets written steps few n rs there)
  test_written NoCommunity u is = ap (λ (v : RplTest). test_holds (forms_of name sets written steps) unbound r v) is ∙ none_there r.communities
  test_written (MedIs n) u is = ap (λ (v : RplTest). test_holds (forms_of name sets written steps) unbound r v) is
  test_written (MedAtLeast n) u is = ap (λ (v : RplTest). test_holds (forms_of name sets written steps) unbound r v) is
  test_written (MedAtMost n) u is = ap (λ (v : RplTest). test_holds (forms_of name sets written steps) unbound r v) is
  test_written (Origin o) u is = ap (λ (v : RplTest). test_holds (forms_of name sets written steps) unbound r v) is ∙ origins_same r.origin o

-- ---- the same answers of all tests give the same outcome

module _ (f g : PlannedTest → Bool) where
  same_nots : (ds : List PlannedTest) → AllByRecursion (λ t. f t ≡ g t) ds → list_all (λ d. not (f d)) ds ≡ list_all (λ d. not (g d)) ds
  same_nots [] h = refl
  same_nots (d ∷ ds) h = ap (λ b. not b && list_all (λ k. not (f k)) ds) h.0 ∙ ap (λ b. not (g d) && b) (same_nots ds h.1)

  same_term : (t : PlannedTerm) → EachOfTerm (λ k. f k ≡ g k) t → term_holds f t ≡ term_holds g t
  same_term t h = ap (λ b. b && f t.permitted) (same_nots t.denied h.0) ∙ ap (λ b. list_all (λ d. not (g d)) t.denied && b) h.1

  same_others : (ts : List PlannedTerm) → AllByRecursion (EachOfTerm (λ k. f k ≡ g k)) ts → list_any (term_holds f) ts ≡ list_any (term_holds g) ts
  same_others [] h = refl
  same_others (t ∷ ts) h = ap (λ b. b || list_any (term_holds f) ts) (same_term t h.0) ∙ ap (λ b. term_holds g t || b) (same_others ts h.1)

  same_terms : (ts : PlannedTerms) → EachOfTerms (λ k. f k ≡ g k) ts → planned_terms_hold f ts ≡ planned_terms_hold g ts
  same_terms ts h = ap (λ b. b || list_any (term_holds f) ts.others) (same_term ts.first h.0) ∙ ap (λ b. term_holds g ts.first || b) (same_others ts.others h.1)

  same_guard : (ls : List PlannedLiteral) → AllByRecursion (λ l. EachOfTerms (λ k. f k ≡ g k) l.terms) ls → guard_says f ls ≡ guard_says g ls
  same_guard [] h = refl
  same_guard (l ∷ ls) h = ap (λ b. beq b l.wanted && guard_says f ls) (same_terms l.terms h.0) ∙ ap (λ b. literal_says g l && b) (same_guard ls h.1)

  same_outcome : (ss : List PlannedStep) (r : RouteParts) → EachTest (λ k. f k ≡ g k) ss → planned_outcome f ss r ≡ planned_outcome g ss r
  unfolding planned_outcome
  same_outcome [] r h = refl
  same_outcome (s ∷ ss) r h =
      ap (λ (b : Bool). elim b [ true ↦ ended_by s.accept (acted_by s.actions r) | false ↦ planned_outcome f ss r ]) (same_guard s.guard h.0)
      ∙ ap (λ (o : Outcome). elim (guard_says g s.guard) [ true ↦ ended_by s.accept (acted_by s.actions r) | false ↦ o ]) (same_outcome ss r h.1)

-- each test, where a fact of tests gives another
module _ (P Q : PlannedTest → Type 0) (gives : (t : PlannedTest) → P t → Q t) where
  each_denied : (ds : List PlannedTest) → AllByRecursion P ds → AllByRecursion Q ds
  each_denied [] h = tt
  each_denied (d ∷ ds) h = (gives d h.0, each_denied ds h.1)

  each_others : (ts : List PlannedTerm) → AllByRecursion (EachOfTerm P) ts → AllByRecursion (EachOfTerm Q) ts
  each_others [] h = tt
  each_others (t ∷ ts) h = ((each_denied t.denied h.0.0, gives t.permitted h.0.1), each_others ts h.1)

  each_literal : (ls : List PlannedLiteral) → AllByRecursion (λ l. EachOfTerms P l.terms) ls → AllByRecursion (λ l. EachOfTerms Q l.terms) ls
  each_literal [] h = tt
  each_literal (l ∷ ls) h = (((each_denied l.terms.first.denied h.0.0.0, gives l.terms.first.permitted h.0.0.1), each_others l.terms.others h.0.1), each_literal ls h.1)

  each_step : (ss : List PlannedStep) → EachTest P ss → EachTest Q ss
  each_step [] h = tt
  each_step (s ∷ ss) h = (each_literal s.guard h.0, each_step ss h.1)

-- ---- the whole

-- the forms of steps, whose tests name the sets of the plan, give every route the outcome of the steps
pub plan_means : (name : List ℕ) (sets : PlannedSets) (written : Writing) (steps : List PlannedStep) → HasFew sets → EachTest (λ t. Writes name sets t (written t)) steps
    → (r : RouteParts) → InRange r → rpl_meaning (forms_of name sets written steps) name r ≡ planned_outcome (planned_holds r) steps r
unfolding rpl_meaning run_policy
plan_means name sets written steps few writes r range =
    let all : List RplForm = forms_of name sets written steps in
    let answers : PlannedTest → Bool = λ t. test_holds all unbound r (written t) in
    ap (λ (fs : List RplForm). at_end (run_rest (run (terms_hold (test_holds all unbound r) []) (acted all unbound) (λ a s. run_policy 128 all r (handed_on all unbound a) a.policy s)) (nested fs) (arriving r))) (body_is name sets written steps few)
    ∙ statements_run (terms_hold (test_holds all unbound r) []) (acted all unbound) (λ a s. run_policy 128 all r (handed_on all unbound a) a.policy s)
    written answers r
    (λ l ls. terms_answer (test_holds all unbound r) _ ∙ guard_answers (test_holds all unbound r) written l ls)
    (λ a. actions_run all unbound a r range.ascending range.communities)
    steps
    ∙ same_outcome answers (planned_holds r) steps r (each_step (λ t. Writes name sets t (written t)) (λ t. answers t ≡ planned_holds r t) (λ t w. test_written name sets written steps few r t (written t) w) steps writes)
