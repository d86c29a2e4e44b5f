-- The tests of conditions agree with what they spell.
use Rattle.std.proofs.Common.{◌≡◌, refl, ap, ◌∙◌, subst, ℕ, ◌-◌, ◌^◌, true, List, [], ◌∷◌, Option, Some, None, lit<}
use Rattle.std.specs.Prelude.{codes, option_map}
use Rattle.route_types.specs.Community.{RectParts}
use Rattle.route_types.specs.RouteText.{SpellsOrigin}
use Rattle.route_types.specs.RouteLines.{origin_in}
use Rattle.route_types.proofs.Numbers.{bind_found}
use Rattle.policy_text.specs.Names.{first_some}
use Rattle.policy_text.specs.Phrases.{Agrees}
use Rattle.policy_text.proofs.Phrases.{first_found, map_found}
use Rattle.policy_text.proofs.Values.{origin_agrees}
use Rattle.rpl_words.specs.Tokens.{Token, plain, IsPlain, One, Behind, plain_in, only, after, behind}
use Rattle.rpl_words.specs.Elements.{SpellPrefixElement, SpellRect, SpellPathElement, SpellPathTest, SpellCompared, SpellSet, prefix_element_in, rect_element_in, path_element_in, path_test_in, compared_in, set_in}
use Rattle.rpl_words.specs.Conditions.{SpellTest, as_path_in, nothing_in, community_test_in, address_test_in, value_test_in, test_in}
use Rattle.rpl_words.specs.declared.condition.RplTest.{RplTest}
use Rattle.rpl_words.specs.declared.condition.RplTest.TheVariants.{Destination, NextHop, PathIn, Path, MatchesAny, MatchesEvery, IsEmpty, Med, Origin as OfOrigin}
use Rattle.rpl_words.specs.declared.element.Comparison.{Comparison}
use Rattle.rpl_words.specs.declared.element.PathTest.{PathTest}
use Rattle.rpl_words.specs.declared.element.PathTest.TheVariants.{Length, PassesThrough, OriginatesFrom, NeighborIs}
use Rattle.rpl_words.specs.declared.element.PrefixElement.{PrefixElement}
use Rattle.rpl_words.specs.declared.number.RplNumber.{RplNumber}
use Rattle.rpl_words.specs.declared.number.RplSet.{RplSet}
use Rattle.rpl_words.proofs.Agree.Tokens.{plain_agrees, one_agrees, behind_agrees, after_found}
use Rattle.rpl_words.proofs.Agree.Elements.{prefix_element_agrees, rect_element_agrees, compared_agrees, path_test_agrees, path_element_agrees, set_agrees}

-- one keyword behind another
pub key_behind : {A : Type 0} (k j : List ℕ) (P : List Token → A → Type 0) (ts rest : List Token) (x : A) → ts ≡ plain k ∷ rest → Behind (j ∷ []) P rest x → Behind (k ∷ j ∷ []) P ts x
key_behind k j P ts rest x e (more, h, p) = (more, e ∙ ap (λ (us : List Token). plain k ∷ us) h, p)

-- ---- what tests ask

prefixes : Agrees (set_in (prefix_element_in true)) (SpellSet (SpellPrefixElement true))
prefixes = set_agrees (prefix_element_in true) (SpellPrefixElement true) (prefix_element_agrees true)

paths : Agrees (set_in (path_element_in true)) (SpellSet (SpellPathElement true))
paths = set_agrees (path_element_in true) (SpellPathElement true) (path_element_agrees true)

pub communities : Agrees (set_in rect_element_in) (SpellSet SpellRect)
communities = set_agrees rect_element_in SpellRect rect_element_agrees

meds : Agrees (compared_in true (2 ^ 32 - 1)) (SpellCompared true (2 ^ 32 - 1))
meds = compared_agrees true (2 ^ 32 - 1) (lit< tt)

pub one_origin : Agrees (only (plain_in origin_in)) (One (IsPlain SpellsOrigin))
one_origin = one_agrees (plain_in origin_in) (IsPlain SpellsOrigin) (plain_agrees origin_in SpellsOrigin origin_agrees)

-- ---- what is found is spelled

address_found : (ts : List Token) (t : RplTest) → address_test_in ts ≡ Some t → SpellTest ts t
unfolding address_test_in
address_found ts t e =
    let in_set : List ℕ → Option (RplSet PrefixElement) = λ key. behind (key ∷ codes "in" ∷ []) (set_in (prefix_element_in true)) ts in
    let agrees : (key : List ℕ) → Agrees (behind (key ∷ codes "in" ∷ []) (set_in (prefix_element_in true))) (Behind (key ∷ codes "in" ∷ []) (SpellSet (SpellPrefixElement true))) = λ key. behind_agrees (key ∷ codes "in" ∷ []) (set_in (prefix_element_in true)) (SpellSet (SpellPrefixElement true)) prefixes in
    first_found (option_map (λ s. Destination s) (in_set (codes "destination"))) (option_map (λ s. NextHop s) (in_set (codes "next-hop"))) t (SpellTest ts t)
    (λ h. let s = map_found (in_set (codes "destination")) (λ x. Destination x) t h in subst (SpellTest ts) s.2 ((agrees (codes "destination")).found ts s.0 s.1))
    (λ h. let s = map_found (in_set (codes "next-hop")) (λ x. NextHop x) t h in subst (SpellTest ts) s.2 ((agrees (codes "next-hop")).found ts s.0 s.1))
    e

as_path_found : (ts rest : List Token) (t : RplTest) → ts ≡ plain (codes "as-path") ∷ rest → as_path_in rest ≡ Some t → SpellTest ts t
unfolding as_path_in
as_path_found ts rest t text e =
    let in_set = behind (codes "in" ∷ []) (set_in (path_element_in true)) in
    first_found (option_map (λ s. PathIn s) (in_set rest)) (option_map (λ p. Path p) (path_test_in true rest)) t (SpellTest ts t)
    (λ h.
    let s = map_found (in_set rest) (λ x. PathIn x) t h in
    subst (SpellTest ts) s.2 (key_behind (codes "as-path") (codes "in") (SpellSet (SpellPathElement true)) ts rest s.0 text ((behind_agrees (codes "in" ∷ []) (set_in (path_element_in true)) (SpellSet (SpellPathElement true)) paths).found rest s.0 s.1)))
    (λ h. let p = map_found (path_test_in true rest) (λ x. Path x) t h in subst (SpellTest ts) p.2 (rest, text, (path_test_agrees true).found rest p.0 p.1))
    e

is_nothing : (us none : List Token) → nothing_in us ≡ Some none → us ≡ []
is_nothing [] none e = refl
is_nothing (u ∷ us) none e = absurd cc

empty_found : (ts rest : List Token) (none : List Token) → ts ≡ plain (codes "community") ∷ rest → behind (codes "is-empty" ∷ []) nothing_in rest ≡ Some none → ts ≡ plain (codes "community") ∷ plain (codes "is-empty") ∷ []
empty_found ts rest none text e =
    let more = bind_found (after (codes "is-empty" ∷ []) rest) nothing_in none e in
    text ∙ ap (λ (us : List Token). plain (codes "community") ∷ us) (after_found (codes "is-empty" ∷ []) rest more.0 more.1 ∙ ap (λ (us : List Token). plain (codes "is-empty") ∷ us) (is_nothing more.0 none more.2))

community_found : (ts rest : List Token) (t : RplTest) → ts ≡ plain (codes "community") ∷ rest → community_test_in rest ≡ Some t → SpellTest ts t
unfolding community_test_in
community_found ts rest t text e =
    let in_set : List ℕ → Option (RplSet RectParts) = λ key. behind (key ∷ []) (set_in rect_element_in) rest in
    let agrees : (key : List ℕ) → Agrees (behind (key ∷ []) (set_in rect_element_in)) (Behind (key ∷ []) (SpellSet SpellRect)) = λ key. behind_agrees (key ∷ []) (set_in rect_element_in) (SpellSet SpellRect) communities in
    let none = behind (codes "is-empty" ∷ []) nothing_in rest in
    first_found (option_map (λ s. MatchesAny s) (in_set (codes "matches-any"))) (first_some (option_map (λ s. MatchesEvery s) (in_set (codes "matches-every"))) (option_map (λ us. IsEmpty) none)) t (SpellTest ts t)
    (λ h. let s = map_found (in_set (codes "matches-any")) (λ x. MatchesAny x) t h in subst (SpellTest ts) s.2 (key_behind (codes "community") (codes "matches-any") (SpellSet SpellRect) ts rest s.0 text ((agrees (codes "matches-any")).found rest s.0 s.1)))
    (λ h. first_found (option_map (λ s. MatchesEvery s) (in_set (codes "matches-every"))) (option_map (λ us. IsEmpty) none) t (SpellTest ts t)
    (λ k. let s = map_found (in_set (codes "matches-every")) (λ x. MatchesEvery x) t k in subst (SpellTest ts) s.2 (key_behind (codes "community") (codes "matches-every") (SpellSet SpellRect) ts rest s.0 text ((agrees (codes "matches-every")).found rest s.0 s.1)))
    (λ k. let us = map_found none (λ x. IsEmpty) t k in subst (SpellTest ts) us.2 (empty_found ts rest us.0 text us.1))
    h)
    e

-- the test of a MED
abbrev of_med : Comparison × RplNumber ℕ → RplTest
of_med c = Med (record { comparison = c.0; med = c.1 })

value_found : (ts : List Token) (t : RplTest) → value_test_in ts ≡ Some t → SpellTest ts t
unfolding value_test_in
value_found ts t e =
    let med = behind (codes "med" ∷ []) (compared_in true (2 ^ 32 - 1)) ts in
    let origin = behind (codes "origin" ∷ codes "is" ∷ []) (only (plain_in origin_in)) ts in
    first_found (option_map of_med med) (option_map (λ o. OfOrigin o) origin) t (SpellTest ts t)
    (λ h. let c = map_found med of_med t h in subst (SpellTest ts) c.2 ((behind_agrees (codes "med" ∷ []) (compared_in true (2 ^ 32 - 1)) (SpellCompared true (2 ^ 32 - 1)) meds).found ts c.0 c.1))
    (λ h. let o = map_found origin (λ x. OfOrigin x) t h in subst (SpellTest ts) o.2 ((behind_agrees (codes "origin" ∷ codes "is" ∷ []) (only (plain_in origin_in)) (One (IsPlain SpellsOrigin)) one_origin).found ts o.0 o.1))
    e

test_found : (ts : List Token) (t : RplTest) → test_in ts ≡ Some t → SpellTest ts t
unfolding test_in
test_found ts t e =
    let path = behind (codes "as-path" ∷ []) as_path_in ts in
    let community = behind (codes "community" ∷ []) community_test_in ts in
    first_found (address_test_in ts) (first_some path (first_some community (value_test_in ts))) t (SpellTest ts t) (λ h. address_found ts t h)
    (λ h. first_found path (first_some community (value_test_in ts)) t (SpellTest ts t)
    (λ k. let rest = bind_found (after (codes "as-path" ∷ []) ts) as_path_in t k in as_path_found ts rest.0 t (after_found (codes "as-path" ∷ []) ts rest.0 rest.1) rest.2)
    (λ k. first_found community (value_test_in ts) t (SpellTest ts t)
    (λ l. let rest = bind_found (after (codes "community" ∷ []) ts) community_test_in t l in community_found ts rest.0 t (after_found (codes "community" ∷ []) ts rest.0 rest.1) rest.2)
    (λ l. value_found ts t l)
    k)
    h)
    e

-- ---- what is spelled is found

-- a test of a path begins with another word than `in`
no_in : (rest : List Token) (p : PathTest) → SpellPathTest true rest p → behind (codes "in" ∷ []) (set_in (path_element_in true)) rest ≡ None
unfolding after
no_in rest (Length p) (more, e, h) = ap (λ (us : List Token). behind (codes "in" ∷ []) (set_in (path_element_in true)) us) e
no_in rest (PassesThrough n) (more, e, h) = ap (λ (us : List Token). behind (codes "in" ∷ []) (set_in (path_element_in true)) us) e
no_in rest (OriginatesFrom n) (more, e, h) = ap (λ (us : List Token). behind (codes "in" ∷ []) (set_in (path_element_in true)) us) e
no_in rest (NeighborIs n) (more, e, h) = ap (λ (us : List Token). behind (codes "in" ∷ []) (set_in (path_element_in true)) us) e

test_only : (ts : List Token) (t : RplTest) → SpellTest ts t → test_in ts ≡ Some t
unfolding test_in address_test_in as_path_in community_test_in value_test_in after
test_only ts (Destination s) (rest, e, h) = ap (λ (us : List Token). test_in us) e ∙ rw (prefixes.only rest s h) refl
test_only ts (NextHop s) (rest, e, h) = ap (λ (us : List Token). test_in us) e ∙ rw (prefixes.only rest s h) refl
test_only ts (PathIn s) (rest, e, h) = ap (λ (us : List Token). test_in us) e ∙ rw (paths.only rest s h) refl
test_only ts (Path p) (rest, e, h) = ap (λ (us : List Token). test_in us) e ∙ rw (no_in rest p h, (path_test_agrees true).only rest p h) refl
test_only ts (MatchesAny s) (rest, e, h) = ap (λ (us : List Token). test_in us) e ∙ rw (communities.only rest s h) refl
test_only ts (MatchesEvery s) (rest, e, h) = ap (λ (us : List Token). test_in us) e ∙ rw (communities.only rest s h) refl
test_only ts IsEmpty e = ap (λ (us : List Token). test_in us) e
test_only ts (Med m) (rest, e, h) = ap (λ (us : List Token). test_in us) e ∙ rw (meds.only rest (m.comparison, m.med) h) refl
test_only ts (OfOrigin o) (rest, e, h) = ap (λ (us : List Token). test_in us) e ∙ rw (one_origin.only rest o h) refl

pub test_agrees : Agrees test_in SpellTest
test_agrees = record { found = test_found; only = test_only }
