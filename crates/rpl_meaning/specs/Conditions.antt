-- The conditions of RPL on the arriving route (Cisco IOS XR Routing Configuration Guide, 'if', 'destination',
-- 'next-hop', 'as-path', 'community', 'med', 'origin'). That `matches-every` of a set without elements holds and
-- `matches-any` doesn't is this project's own.
use Rattle.std.specs.Prelude.{ℕ, ◌^◌, ◌-◌, Bool, true, false, ◌&&◌, ◌||◌, not, ◌==◌, nat_le, List, [], ◌∷◌, length}
use Rattle.std.specs.List.{list_any, list_all}
use Rattle.route_types.specs.Address.{PrefixParts, full_prefix}
use Rattle.route_types.specs.Community.{RectParts, fits}
use Rattle.route_types.specs.Route.{RouteParts}
use Rattle.route_types.specs.declared.community.Community.{Community}
use Rattle.route_types.specs.declared.route.NextHop.{NextHop as Hop}
use Rattle.route_types.specs.declared.route.NextHop.TheVariants.{At, Own}
use Rattle.route_types.specs.declared.route.Origin.{Origin as RouteOrigin}
use Rattle.route_types.specs.declared.route.Origin.TheVariants.{Igp, Egp, Incomplete}
use Rattle.prefix_sets.specs.Range.{RangeParts, in_range}
use Rattle.path_patterns.specs.Finds.{finds_in}
use Rattle.rpl_words.specs.Conditions.{Condition, Asks as OfTest, Grouped, Negated, Both, Either}
use Rattle.rpl_words.specs.declared.condition.RplTest.{RplTest}
use Rattle.rpl_words.specs.declared.condition.RplTest.TheVariants.{Destination, NextHop, PathIn, Path, MatchesAny, MatchesEvery, IsEmpty, Med, Origin}
use Rattle.rpl_words.specs.declared.condition.Term.{Term}
use Rattle.rpl_words.specs.declared.condition.Term.TheVariants.{Test, Group, Not, And, Or}
use Rattle.rpl_words.specs.declared.element.Comparison.{Comparison}
use Rattle.rpl_words.specs.declared.element.Comparison.TheVariants.{Equal, AtLeast, AtMost}
use Rattle.rpl_words.specs.declared.element.PathElement.{PathElement}
use Rattle.rpl_words.specs.declared.element.PathElement.TheVariants.{Pattern, Test as Asks}
use Rattle.rpl_words.specs.declared.element.PathTest.{PathTest}
use Rattle.rpl_words.specs.declared.element.PathTest.TheVariants.{Length, PassesThrough, OriginatesFrom, NeighborIs}
use Rattle.rpl_words.specs.declared.element.PrefixElement.{PrefixElement}
use Rattle.rpl_forms.specs.declared.item.RplForm.{RplForm}
use Rattle.rpl_meaning.specs.Sets.{Bindings, value, members, prefix_set_named, community_set_named, path_set_named, prefix_in, community_in, path_in}

-- the first number compares so with the second
abbrev pub compares : Comparison → ℕ → ℕ → Bool
compares Equal x n = x == n
compares AtLeast x n = nat_le n x
compares AtMost x n = nat_le x n

-- ---- elements

-- the range of an element of a prefix set
abbrev pub range_of : Bindings → PrefixElement → RangeParts
range_of bs e = record { prefix = e.prefix; least = value 255 bs e.least; most = value 255 bs e.most }

-- some element holds the prefix
abbrev pub some_holds : Bindings → List PrefixElement → PrefixParts → Bool
some_holds bs es p = list_any (λ e. in_range (range_of bs e) p) es

-- some element holds the address of a next hop, as a prefix of full length; the router's own address is in none
abbrev pub some_holds_hop : Bindings → List PrefixElement → Hop → Bool
some_holds_hop bs es (At a) = some_holds bs es (full_prefix a)
some_holds_hop bs es Own = false

-- the number stands first in the path
abbrev pub is_first : ℕ → List ℕ → Bool
is_first n [] = false
is_first n (m ∷ ms) = m == n

-- the number stands last in the path
unfoldable pub is_last : ℕ → List ℕ → Bool
is_last n [] = false
is_last n (m ∷ []) = m == n
is_last n (m ∷ k ∷ ms) = is_last n (k ∷ ms)

-- what is asked of a path holds
abbrev pub path_test_holds : Bindings → List ℕ → PathTest → Bool
path_test_holds bs path (Length t) = compares t.comparison (length path) (value 65535 bs t.length)
path_test_holds bs path (PassesThrough n) = list_any (λ m. m == value (2 ^ 32 - 1) bs n) path
path_test_holds bs path (OriginatesFrom n) = is_last (value (2 ^ 32 - 1) bs n) path
path_test_holds bs path (NeighborIs n) = is_first (value (2 ^ 32 - 1) bs n) path

-- an element of a path set holds for a path
abbrev pub path_element_holds : Bindings → List ℕ → PathElement → Bool
path_element_holds bs path (Pattern p) = finds_in p path
path_element_holds bs path (Asks t) = path_test_holds bs path t

-- ---- tests

-- two origins are one
abbrev pub same_origin : RouteOrigin → RouteOrigin → Bool
same_origin Igp Igp = true
same_origin Egp Egp = true
same_origin Incomplete Incomplete = true
same_origin _ _ = false

-- some community fits
abbrev pub some_fits : List Community → RectParts → Bool
some_fits cs r = list_any (λ c. fits r c) cs

-- a test holds for the arriving route
abbrev pub test_holds : List RplForm → Bindings → RouteParts → RplTest → Bool
test_holds all bs r (Destination s) = some_holds bs (members prefix_set_named prefix_in all bs s) r.prefix
test_holds all bs r (NextHop s) = some_holds_hop bs (members prefix_set_named prefix_in all bs s) r.next_hop
test_holds all bs r (PathIn s) = list_any (path_element_holds bs r.path) (members path_set_named path_in all bs s)
test_holds all bs r (Path t) = path_test_holds bs r.path t
test_holds all bs r (MatchesAny s) = list_any (some_fits r.communities) (members community_set_named community_in all bs s)
test_holds all bs r (MatchesEvery s) = list_all (some_fits r.communities) (members community_set_named community_in all bs s)
test_holds all bs r IsEmpty = length r.communities == 0
test_holds all bs r (Med t) = compares t.comparison r.med (value (2 ^ 32 - 1) bs t.med)
test_holds all bs r (Origin o) = same_origin r.origin o

-- ---- conditions

-- a condition holds where its tests answer so
unfoldable pub condition_holds : (RplTest → Bool) → Condition → Bool
condition_holds test (OfTest t) = test t
condition_holds test (Grouped c) = condition_holds test c
condition_holds test (Negated c) = not (condition_holds test c)
condition_holds test (Both c d) = condition_holds test c && condition_holds test d
condition_holds test (Either c d) = condition_holds test c || condition_holds test d

-- the same by its terms, of which each stands behind what it joins: the answers of the two conditions that stand
-- last, joined
abbrev pub joined_by : (Bool → Bool → Bool) → List Bool → List Bool
joined_by join [] = []
joined_by join (b ∷ []) = []
joined_by join (b ∷ a ∷ bs) = join a b ∷ bs

-- `and`, or `or`
abbrev pub join_of : Bool → Bool → Bool → Bool
join_of true a b = a && b
join_of false a b = a || b

-- the answer of the condition that stands last, turned round
abbrev pub turned : List Bool → List Bool
turned [] = []
turned (b ∷ bs) = not b ∷ bs

-- the answers behind one more term
abbrev pub answers_behind : (RplTest → Bool) → Term → List Bool → List Bool
answers_behind test (Test t) bs = test t ∷ bs
answers_behind test Group bs = bs
answers_behind test Not bs = turned bs
answers_behind test And bs = joined_by (join_of true) bs
answers_behind test Or bs = joined_by (join_of false) bs

-- the answer that stands last
abbrev pub last_answer : List Bool → Bool
last_answer [] = false
last_answer (b ∷ bs) = b

-- the answer of a condition by its terms, of which each joins those before it
unfoldable pub terms_hold : (RplTest → Bool) → List Bool → List Term → Bool
terms_hold test bs [] = last_answer bs
terms_hold test bs (t ∷ ts) = terms_hold test (answers_behind test t bs) ts
