-- What entries of lists ask answers as the lists do.
use Rattle.std.proofs.Common.{◌≡◌, refl, sym, ap, subst, ◌∙◌, ℕ, ◌≤◌, Bool, true, false, ◌&&◌, ◌||◌, List, [], ◌∷◌, ◌++◌, Option, Some, None, arith}
use Rattle.std.specs.Prelude.{nat_le, min, max}
use Rattle.std.specs.List.{list_any, list_all}
use Rattle.std.proofs.lemmas.Bool.{and_parts, false_from_ne_true}
use Rattle.std.proofs.lemmas.Bool.Decides.{nat_tests}
use Rattle.std.proofs.lemmas.List.Folds.{list_any-append}
use Rattle.route_types.specs.Address.{PrefixParts, same_family, contains, full_prefix, width}
use Rattle.route_types.specs.Community.{RectParts, fits}
use Rattle.route_types.specs.Route.{RouteParts, IsNextHop}
use Rattle.route_types.specs.declared.route.NextHop.{NextHop}
use Rattle.route_types.specs.declared.route.NextHop.TheVariants.{At, Own}
use Rattle.prefix_sets.specs.Range.{RangeParts, in_range}
use Rattle.prefix_sets.specs.FirstMatch.{first_match, hop_match}
use Rattle.prefix_sets.specs.declared.list.PrefixEntry.{PrefixEntry}
use Rattle.community_sets.specs.Tests.{all_fitted, test_holds, list_answers}
use Rattle.community_sets.specs.declared.list.CommEntry.{CommEntry}
use Rattle.community_sets.specs.declared.list.CommTest.{CommTest}
use Rattle.community_sets.specs.declared.list.CommTest.TheVariants.{AllOf, Exactly}
use Rattle.rpl_plans.specs.Choices.{first_choice, joined}
use Rattle.rpl_plans.specs.Entries.{address_test, has_length, cut_range, prefix_choices, set_test, comm_test, comm_choices}
use Rattle.rpl_plans.specs.Holds.{hop_in, planned_holds, text_finds}
use Rattle.rpl_plans.specs.declared.test.PlannedTest.{PlannedTest}
use Rattle.rpl_plans.specs.declared.test.PlannedTest.TheVariants.{Destination, NextHop as AsksNextHop, PathIn, MatchesAny}
use Rattle.policy_core.specs.Sayable.{is_all_of}
use Rattle.rpl_plans.specs.declared.test.RouteAddress.{RouteAddress}
use Rattle.rpl_plans.specs.declared.test.RouteAddress.TheVariants.{Destination as OfDestination, NextHop as OfNextHop}

or_none : (b : Bool) → (b || false) ≡ b
or_none true = refl
or_none false = refl

and_all : (b : Bool) → (b && true) ≡ b
and_all true = refl
and_all false = refl

abbrev decided : Bool → Bool → Bool → Bool
decided here answer later = elim here [ true ↦ answer | false ↦ later ]

-- ---- one test for two

holds_in : RouteParts → Option PlannedTest → Bool
holds_in r None = false
holds_in r (Some t) = planned_holds r t

hop_joined : (rs ss : List RangeParts) (h : NextHop) → hop_in (rs ++ ss) h ≡ (hop_in rs h || hop_in ss h)
hop_joined rs ss (At a) = list_any-append (λ x. in_range x (full_prefix a)) rs ss
hop_joined rs ss Own = refl

pub joins_right : (r : RouteParts) (t u v : PlannedTest) → joined t u ≡ Some v → planned_holds r v ≡ (planned_holds r t || planned_holds r u)
unfolding holds_in
joins_right r (Destination rs) (Destination ss) v e = sym (ap (holds_in r) e) ∙ list_any-append (λ x. in_range x r.prefix) rs ss
joins_right r (AsksNextHop rs) (AsksNextHop ss) v e = sym (ap (holds_in r) e) ∙ hop_joined rs ss r.next_hop
joins_right r (PathIn ps) (PathIn qs) v e = sym (ap (holds_in r) e) ∙ list_any-append (λ t. text_finds t r.path) ps qs
joins_right r (MatchesAny rs) (MatchesAny ss) v e = sym (ap (holds_in r) e) ∙ list_any-append (λ x. list_any (λ c. fits x c) r.communities) rs ss
joins_right r t u v e = absurd cc

-- ---- prefix lists

pub same_answers : (a b : Bool) → (a ≡ true → b ≡ true) → (b ≡ true → a ≡ true) → a ≡ b
same_answers true true f g = refl
same_answers false false f g = refl
same_answers true false f g = absurd (let e : false ≡ true = f refl in cc)
same_answers false true f g = absurd (let e : false ≡ true = g refl in cc)

greater_of : (least low length : ℕ) → low ≤ length → nat_le (max least low) length ≡ nat_le least length
greater_of least low length h = same_answers (nat_le (max least low) length) (nat_le least length) (λ e. grind (arith, nat_tests)) (λ e. grind (arith, nat_tests))

smaller_of : (length most : ℕ) → length ≤ 32 → nat_le length (min most 32) ≡ nat_le length most
smaller_of length most h = same_answers (nat_le length (min most 32)) (nat_le length most) (λ e. grind (arith, nat_tests)) (λ e. grind (arith, nat_tests))

-- of numbers: within the bounds, or within those that a prefix of IPv4 can have
bounds_cut : (first : Bool) (least most length low : ℕ) → length ≤ 32 → (first ≡ true → low ≤ length)
    → (first && nat_le (max least low) length && nat_le length (min most 32)) ≡ (first && nat_le least length && nat_le length most)
bounds_cut false least most length low h reach = refl
bounds_cut true least most length low h reach =
    ap (λ b. b && nat_le length (min most 32)) (greater_of least low length (reach refl))
    ∙ ap (λ b. nat_le least length && b) (smaller_of length most h)

middle_part : (f l e : Bool) → (f && l && e) ≡ true → l ≡ true
middle_part true true e h = refl
middle_part true false e h = absurd cc
middle_part false l e h = absurd cc

le_from : (a b : ℕ) → nat_le a b ≡ true → a ≤ b
le_from a b e = grind (arith, nat_tests)

-- a prefix is at least as long as one that contains it
reaches : (p q : PrefixParts) → contains p q ≡ true → p.length ≤ q.length
reaches p q e = le_from p.length q.length (middle_part (same_family p.address.family q.address.family) (nat_le p.length q.length) _ e)

cut_same : (x : RangeParts) (q : PrefixParts) → q.length ≤ 32 → in_range (cut_range x) q ≡ in_range x q
cut_same x q h = bounds_cut (contains x.prefix q) x.least x.most q.length x.prefix.length h (λ e. reaches x.prefix q e)

none_between : (first : Bool) (a n b : ℕ) → nat_le a b ≡ false → (first && nat_le a n && nat_le n b) ≡ false
none_between false a n b e = refl
none_between true a n b e = false_from_ne_true (nat_le a n && nat_le n b) (λ h. grind (arith, nat_tests))

empty_none : (x : RangeParts) (q : PrefixParts) → q.length ≤ 32 → has_length x ≡ false → in_range x q ≡ false
empty_none x q h e = sym (cut_same x q h) ∙ none_between (contains x.prefix q) (max x.least x.prefix.length) q.length (min x.most 32) e

module _ (holds : PlannedTest → Bool) (asked : RouteAddress) (p : PrefixParts) where
  range_decides : p.length ≤ 32 → ((x : RangeParts) → holds (address_test asked (x ∷ [])) ≡ in_range x p) → (es : List PrefixEntry) → first_choice holds (prefix_choices asked es) ≡ first_match es p
  unfolding first_choice prefix_choices first_match
  range_decides h same [] = refl
  range_decides h same (e ∷ es) = one (has_length e.range) refl (range_decides h same es) where
    one : (b : Bool) → has_length e.range ≡ b → first_choice holds (prefix_choices asked es) ≡ first_match es p
        → first_choice holds (elim b [ true ↦ record { permit = e.permit; test = address_test asked (cut_range e.range ∷ []) } ∷ prefix_choices asked es | false ↦ prefix_choices asked es ])
        ≡ decided (in_range e.range p) e.permit (first_match es p)
    one true some more =
        ap (λ (b : Bool). decided b e.permit (first_choice holds (prefix_choices asked es))) (same (cut_range e.range) ∙ cut_same e.range p h)
        ∙ ap (λ (b : Bool). decided (in_range e.range p) e.permit b) more
    one false none more = more ∙ sym (ap (λ (b : Bool). decided b e.permit (first_match es p)) (empty_none e.range p h none))

pub prefix_decides : (r : RouteParts) (es : List PrefixEntry) → r.prefix.length ≤ 32 → first_choice (planned_holds r) (prefix_choices OfDestination es) ≡ first_match es r.prefix
prefix_decides r es h = range_decides (planned_holds r) OfDestination r.prefix h (λ x. or_none (in_range x r.prefix)) es

-- no entry of a list holds where its tests don't
none_decides : (holds : PlannedTest → Bool) → ((x : RangeParts) → holds (AsksNextHop (x ∷ [])) ≡ false) → (es : List PrefixEntry) → first_choice holds (prefix_choices OfNextHop es) ≡ false
unfolding first_choice prefix_choices
none_decides holds fails [] = refl
none_decides holds fails (e ∷ es) = one (has_length e.range) (none_decides holds fails es) where
  one : (b : Bool) → first_choice holds (prefix_choices OfNextHop es) ≡ false
      → first_choice holds (elim b [ true ↦ record { permit = e.permit; test = AsksNextHop (cut_range e.range ∷ []) } ∷ prefix_choices OfNextHop es | false ↦ prefix_choices OfNextHop es ]) ≡ false
  one true more = ap (λ (b : Bool). decided b e.permit (first_choice holds (prefix_choices OfNextHop es))) (fails (cut_range e.range)) ∙ more
  one false more = more

pub hop_decides : (r : RouteParts) (h : NextHop) (es : List PrefixEntry) → r.next_hop ≡ h → IsNextHop h → first_choice (planned_holds r) (prefix_choices OfNextHop es) ≡ hop_match es h
hop_decides r (At a) es e is =
    range_decides (planned_holds r) OfNextHop (full_prefix a) (subst (λ f. width f ≤ 32) (sym is.0) (omega arith))
    (λ x. ap (λ k. hop_in (x ∷ []) k) e ∙ or_none (in_range x (full_prefix a))) es
hop_decides r Own es e is = none_decides (planned_holds r) (λ x. ap (λ k. hop_in (x ∷ []) k) e) es

-- ---- community lists

set_same : (r : RouteParts) (rects : List RectParts) → planned_holds r (set_test rects) ≡ all_fitted rects r.communities
set_same r [] = refl
set_same r (x ∷ []) = or_none (list_any (λ c. fits x c) r.communities) ∙ sym (and_all (list_any (λ c. fits x c) r.communities))
set_same r (x ∷ y ∷ rs) = refl

test_same : (r : RouteParts) (t : CommTest) → is_all_of t ≡ true → planned_holds r (comm_test t) ≡ test_holds t r.communities
test_same r (AllOf rects) e = set_same r rects
test_same r (Exactly set) e = absurd cc

pub comm_decides : (r : RouteParts) (es : List CommEntry) → list_all (λ e. is_all_of e.test) es ≡ true → first_choice (planned_holds r) (comm_choices es) ≡ list_answers es r.communities
unfolding first_choice comm_choices list_answers
comm_decides r [] h = refl
comm_decides r (e ∷ es) h =
    let parts = and_parts (is_all_of e.test) (list_all (λ k. is_all_of k.test) es) h in
    ap (λ (b : Bool). decided b e.permit (first_choice (planned_holds r) (comm_choices es))) (test_same r e.test parts.0)
    ∙ ap (λ (b : Bool). decided (test_holds e.test r.communities) e.permit b) (comm_decides r es parts.1)
