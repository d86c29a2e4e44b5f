-- Steps on the communities: each decides of a community whether it is in the set, or leaves that as it was. So of steps
-- that are done one after the other the last that decides counts.
use Rattle.std.proofs.Common.{◌≡◌, refl, sym, ap, ◌∙◌, subst, ℕ, Bool, true, false, cond, ◌||◌, ◌&&◌, List, [], ◌∷◌, ◌++◌, Option, Some, None, ◌-◌, ◌<◌, ◌≤◌, length, get_or, take, drop, arith}
use Rattle.std.specs.Prelude.{◌==◌, not, filter, map, unwrap_or}
use Rattle.std.specs.List.{list_any}
use Rattle.std.specs.Option.{option_or}
use Rattle.std.proofs.lemmas.Bool.{true≢false, eqb-true, eq-eqb}
use Rattle.std.proofs.lemmas.List.Folds.{list_any-append}
use Rattle.route_types.specs.Address.{PrefixParts}
use Rattle.route_types.specs.Route.{RouteParts}
use Rattle.route_drafts.specs.Drafts.{route_of}
use Rattle.route_drafts.specs.declared.draft.Draft.{Draft}
use Rattle.route_types.specs.Community.{RectParts, fits, number, IsAscending}
use Rattle.route_types.specs.Sets.{fits_some}
use Rattle.route_types.specs.declared.community.Community.{Community}
use Rattle.route_types.proofs.Sets.{same_community, any-set, set_of_ascending, set_itself, set_kept, ascending_same}
use Rattle.rpl_effects.specs.Answers.{last_answer}
use Rattle.rpl_effects.specs.Changes.{all_done}
use Rattle.rpl_meaning.specs.Communities.{rects_in, unfitted_by, stepped}
use Rattle.rpl_meaning.specs.Meaning.{community_of}
use Rattle.rpl_meaning.specs.declared.communities.CommunityStep.{CommunityStep}
use Rattle.rpl_meaning.specs.declared.communities.CommunityStep.TheVariants.{Add, Replace, Delete}
use Rattle.rpl_meaning.proofs.RunLaws.{front}

-- the number is that of a member
abbrev has : ℕ → List Community → Bool
has n cs = list_any (λ c. number c == n) cs

abbrev numbered : ℕ → Community
numbered n = record { 0 = n }

-- what a step decides of the community of a number
abbrev decides : ℕ → CommunityStep → Option Bool
decides n (Add es) = elim (has n (map community_of (rects_in es))) [ true ↦ Some true | false ↦ None ]
decides n (Replace es) = Some (has n (map community_of (rects_in es)))
decides n (Delete es) = elim (fits_some fits (rects_in es) (numbered n)) [ true ↦ Some false | false ↦ None ]

has_added : (b there : Bool) → (there || b) ≡ unwrap_or (elim b [ true ↦ Some true | false ↦ None ]) there
has_added true true = refl
has_added true false = refl
has_added false true = refl
has_added false false = refl

has_removed : (b there : Bool) → (not b && there) ≡ unwrap_or (elim b [ true ↦ Some false | false ↦ None ]) there
has_removed true there = refl
has_removed false there = refl

kept_by : (n : ℕ) (c : Community) (cs : List Community) (b same kept more : Bool) → (number c == n) ≡ same → (same ≡ true → b ≡ kept) → has n cs ≡ (kept && more) → has n (cond b (c ∷ cs) cs) ≡ (kept && (same || more))
kept_by n c cs true true kept more e h ih = ap (λ (x : Bool). x || has n cs) e ∙ ap (λ (x : Bool). x && true) (h refl)
kept_by n c cs true false kept more e h ih = ap (λ (x : Bool). x || has n cs) e ∙ ih
kept_by n c cs false true kept more e h ih = ih ∙ ap (λ (x : Bool). x && more) (sym (h refl)) ∙ ap (λ (x : Bool). x && true) (h refl)
kept_by n c cs false false kept more e h ih = ih

-- the members that pass a test
has_kept : (n : ℕ) (p : Community → Bool) (cs : List Community) → has n (filter p cs) ≡ (p (numbered n) && has n cs)
has_kept n p [] = none (p (numbered n))
  where
    none : (b : Bool) → false ≡ (b && false)
    none true = refl
    none false = refl
has_kept n p (c ∷ cs) =
    kept_by n c (filter p cs) (p c) (number c == n) (p (numbered n)) (has n cs) refl (λ (e : (number c == n) ≡ true). ap p (same_community c (numbered n) (eqb-true (number c) n e))) (has_kept n p cs)

-- the members behind a step
has_stepped : (n : ℕ) (st : CommunityStep) (set : List Community) → has n (stepped st set) ≡ unwrap_or (decides n st) (has n set)
has_stepped n (Add es) set =
    any-set number same_community (λ c. number c == n) (set ++ map community_of (rects_in es))
    ∙ list_any-append (λ (c : Community). number c == n) set (map community_of (rects_in es))
    ∙ has_added (has n (map community_of (rects_in es))) (has n set)
has_stepped n (Replace es) set = any-set number same_community (λ c. number c == n) ([] ++ map community_of (rects_in es))
has_stepped n (Delete es) set = has_kept n (λ c. not (fits_some fits (rects_in es) c)) set ∙ has_removed (fits_some fits (rects_in es) (numbered n)) (has n set)

later_value : (o p : Option Bool) (x : Bool) → unwrap_or o (unwrap_or p x) ≡ unwrap_or (option_or o p) x
later_value None p x = refl
later_value (Some y) p x = refl

has_done : (n : ℕ) (steps : List CommunityStep) (set : List Community) → has n (all_done stepped steps set) ≡ unwrap_or (last_answer (decides n) steps) (has n set)
unfolding all_done last_answer
has_done n [] set = refl
has_done n (st ∷ steps) set =
    has_done n steps (stepped st set)
    ∙ ap (λ (b : Bool). unwrap_or (last_answer (decides n) steps) b) (has_stepped n st set)
    ∙ later_value (last_answer (decides n) steps) (decides n st) (has n set)

-- ---- sets stay in rising order

unfitted_ascends : (rects : List RectParts) (set : List Community) → IsAscending set → IsAscending (unfitted_by rects set)
unfitted_ascends rects set h =
    subst IsAscending (set_kept number same_community (λ c. not (fits_some fits rects c)) set ∙ ap (λ (cs : List Community). unfitted_by rects cs) (set_itself number same_community set h))
    (set_of_ascending (unfitted_by rects set))

stepped_ascends : (st : CommunityStep) (set : List Community) → IsAscending set → IsAscending (stepped st set)
stepped_ascends (Add es) set h = set_of_ascending (set ++ map community_of (rects_in es))
stepped_ascends (Replace es) set h = set_of_ascending ([] ++ map community_of (rects_in es))
stepped_ascends (Delete es) set h = unfitted_ascends (rects_in es) set h

done_ascends : (steps : List CommunityStep) (set : List Community) → IsAscending set → IsAscending (all_done stepped steps set)
unfolding all_done
done_ascends [] set h = h
done_ascends (st ∷ steps) set h = done_ascends steps (stepped st set) (stepped_ascends st set h)

-- ---- sets with the same numbers have the same members

both_or : (a b : Bool) → (a || b) ≡ true → (P : Type 0) → (a ≡ true → P) → (b ≡ true → P) → P
both_or true b e P f g = f refl
both_or false b e P f g = g e

or_right : (a b : Bool) → b ≡ true → (a || b) ≡ true
or_right true b e = refl
or_right false b e = e

or_left : (a b : Bool) → a ≡ true → (a || b) ≡ true
or_left true b e = refl
or_left false b e = absurd (true≢false (sym e))

one_has : (q : Community → Bool) (n : ℕ) (cs : List Community) → has n cs ≡ true → q (numbered n) ≡ true → list_any q cs ≡ true
one_has q n [] e h = absurd (true≢false (sym e))
one_has q n (c ∷ cs) e h =
    both_or (number c == n) (has n cs) e (list_any q (c ∷ cs) ≡ true)
    (λ same. or_left (q c) (list_any q cs) (ap q (same_community c (numbered n) (eqb-true (number c) n same)) ∙ h))
    (λ more. or_right (q c) (list_any q cs) (one_has q n cs more h))

some_has : (q : Community → Bool) (cs ds : List Community) → ((n : ℕ) → has n cs ≡ true → has n ds ≡ true) → list_any q cs ≡ true → list_any q ds ≡ true
some_has q [] ds within e = absurd (true≢false (sym e))
some_has q (c ∷ cs) ds within e =
    both_or (q c) (list_any q cs) e (list_any q ds ≡ true)
    (λ here. one_has q (number c) ds (within (number c) (or_left (number c == number c) (has (number c) cs) (eq-eqb (number c) (number c) refl))) here)
    (λ there. some_has q cs ds (λ n h. within n (or_right (number c == n) (has n cs) h)) there)

both_ways : (a b : Bool) → (a ≡ true → b ≡ true) → (b ≡ true → a ≡ true) → a ≡ b
both_ways true b f g = sym (f refl)
both_ways false true f g = g refl
both_ways false false f g = refl

pub same_done : (xs ys : List CommunityStep) (set : List Community) → IsAscending set → ((answer : CommunityStep → Option Bool) → last_answer answer xs ≡ last_answer answer ys) → all_done stepped xs set ≡ all_done stepped ys set
same_done xs ys set h same =
    let alike : (n : ℕ) → has n (all_done stepped xs set) ≡ has n (all_done stepped ys set) =
    λ n. has_done n xs set ∙ ap (λ (o : Option Bool). unwrap_or o (has n set)) (same (decides n)) ∙ sym (has_done n ys set) in
    ascending_same number same_community (all_done stepped xs set) (all_done stepped ys set) (done_ascends xs set h) (done_ascends ys set h)
    (λ q. both_ways (list_any q (all_done stepped xs set)) (list_any q (all_done stepped ys set))
    (some_has q (all_done stepped xs set) (all_done stepped ys set) (λ n e. sym (alike n) ∙ e))
    (some_has q (all_done stepped ys set) (all_done stepped xs set) (λ n e. alike n ∙ e)))

-- ---- steps done one after the other on a draft

-- a route behind steps
abbrev pub behind_steps : List CommunityStep → RouteParts → RouteParts
behind_steps steps r = record r { communities = all_done stepped steps r.communities }

pub one_done : (rest : List CommunityStep) (i : CommunityStep) (n : ℕ) (old new : Draft) (all : PrefixParts → RouteParts) → 1 ≤ length rest → i ≡ get_or rest 0 i → n ≡ length rest - 1
    → ((p : PrefixParts) → route_of p new ≡ record (route_of p old) { communities = stepped i (route_of p old).communities }) → ((p : PrefixParts) → behind_steps rest (route_of p old) ≡ all p)
    → (p : PrefixParts) → behind_steps (take n (drop 1 rest)) (route_of p new) ≡ all p
unfolding all_done
one_done rest i n old new all long is len made so_far p =
    ap (λ (r : RouteParts). behind_steps (take n (drop 1 rest)) r) (made p) ∙ ap (λ (steps : List CommunityStep). behind_steps steps (route_of p old)) (front rest i n long is len) ∙ so_far p

pub each_done : (rest : List CommunityStep) (new : Draft) (all : PrefixParts → RouteParts) → length rest < 1 → ((p : PrefixParts) → behind_steps rest (route_of p new) ≡ all p) → (p : PrefixParts) → route_of p new ≡ all p
unfolding all_done
each_done [] new all short so_far p = so_far p
each_done (st ∷ rest) new all short so_far p = absurd (omega arith)
