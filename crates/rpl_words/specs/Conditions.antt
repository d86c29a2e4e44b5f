-- Conditions: tests joined by `not`, `and`, `or` and parentheses (Cisco IOS XR Routing Configuration
-- Guide, 'if'). `not` binds before `and`, `and` before `or`. First what the words are; behind it the
-- functions that find the terms.
use Rattle.std.specs.Prelude.{◌≡◌, ℕ, suc, ◌+◌, ◌-◌, ◌^◌, Bool, true, false, IsTrue, ◌&&◌, ◌||◌, List, [], ◌∷◌, ◌++◌, Option, Some, None, codes, length, drop, option_map}
use Rattle.route_types.specs.Words.{◌>>=◌}
use Rattle.route_types.specs.declared.route.Origin.{Origin}
use Rattle.route_types.specs.RouteText.{SpellsOrigin}
use Rattle.route_types.specs.RouteLines.{origin_in}
use Rattle.policy_text.specs.Names.{first_some}
use Rattle.rpl_words.specs.Tokens.{Token, plain, IsPlain, One, Behind, plain_in, only, after, behind, place_of}
use Rattle.rpl_words.specs.Elements.{SpellPrefixElement, SpellRect, SpellPathElement, SpellPathTest, SpellCompared, SpellSet, prefix_element_in, rect_element_in, path_element_in, path_test_in, compared_in, set_in}
use Rattle.rpl_words.specs.declared.condition.RplTest.{RplTest}
use Rattle.rpl_words.specs.declared.condition.RplTest.TheVariants.{Destination, NextHop, PathIn, Path, MatchesAny, MatchesEvery, IsEmpty, Med, Origin as OfOrigin}
use Rattle.rpl_words.specs.declared.condition.Term.{Term}
use Rattle.rpl_words.specs.declared.condition.Term.TheVariants.{Test, Group, Not, And, Or}

-- ---- what the words are

-- a test
abbrev pub SpellTest : List Token → RplTest → Type 0
SpellTest ts (Destination s) = Behind (codes "destination" ∷ codes "in" ∷ []) (SpellSet (SpellPrefixElement true)) ts s
SpellTest ts (NextHop s) = Behind (codes "next-hop" ∷ codes "in" ∷ []) (SpellSet (SpellPrefixElement true)) ts s
SpellTest ts (PathIn s) = Behind (codes "as-path" ∷ codes "in" ∷ []) (SpellSet (SpellPathElement true)) ts s
SpellTest ts (Path t) = Behind (codes "as-path" ∷ []) (SpellPathTest true) ts t
SpellTest ts (MatchesAny s) = Behind (codes "community" ∷ codes "matches-any" ∷ []) (SpellSet SpellRect) ts s
SpellTest ts (MatchesEvery s) = Behind (codes "community" ∷ codes "matches-every" ∷ []) (SpellSet SpellRect) ts s
SpellTest ts IsEmpty = ts ≡ plain (codes "community") ∷ plain (codes "is-empty") ∷ []
SpellTest ts (Med t) = Behind (codes "med" ∷ []) (SpellCompared true (2 ^ 32 - 1)) ts (t.comparison, t.med)
SpellTest ts (OfOrigin o) = Behind (codes "origin" ∷ codes "is" ∷ []) (One (IsPlain SpellsOrigin)) ts o

-- a condition
pub data Condition : Type 0 where
  Asks : RplTest → Condition
  Grouped : Condition → Condition
  Negated : Condition → Condition
  Both : Condition → Condition → Condition
  Either : Condition → Condition → Condition

-- how a condition binds: `or` joins what `and` joins, and that joins tests, groups and what `not` negates
pub data Binding : Type 0 where
  ByOr : Binding
  ByAnd : Binding
  ByNot : Binding

-- a condition that may stand where things of this binding are joined
unfoldable pub is_shaped : Binding → Condition → Bool
is_shaped b (Asks t) = true
is_shaped b (Grouped c) = is_shaped ByOr c
is_shaped b (Negated c) = is_shaped ByNot c
is_shaped ByNot (Both c d) = false
is_shaped b (Both c d) = is_shaped ByAnd c && is_shaped ByNot d
is_shaped ByOr (Either c d) = is_shaped ByOr c && is_shaped ByAnd d
is_shaped b (Either c d) = false

-- the words of a condition
unfoldable pub SpellCondition : List Token → Condition → Type 0
SpellCondition ts (Asks t) = SpellTest ts t
SpellCondition ts (Grouped c) = (inner : List Token) × (ts ≡ plain (codes "(") ∷ (inner ++ (plain (codes ")") ∷ []))) × SpellCondition inner c
SpellCondition ts (Negated c) = (rest : List Token) × (ts ≡ plain (codes "not") ∷ rest) × SpellCondition rest c
SpellCondition ts (Both c d) = (left : List Token) × (right : List Token) × (ts ≡ left ++ plain (codes "and") ∷ right) × SpellCondition left c × SpellCondition right d
SpellCondition ts (Either c d) = (left : List Token) × (right : List Token) × (ts ≡ left ++ plain (codes "or") ∷ right) × SpellCondition left c × SpellCondition right d

-- the terms of a condition: each stands behind what it joins
unfoldable pub terms_of : Condition → List Term
terms_of (Asks t) = Test t ∷ []
terms_of (Grouped c) = terms_of c ++ (Group ∷ [])
terms_of (Negated c) = terms_of c ++ (Not ∷ [])
terms_of (Both c d) = terms_of c ++ (terms_of d ++ (And ∷ []))
terms_of (Either c d) = terms_of c ++ (terms_of d ++ (Or ∷ []))

-- the words spell a condition of these terms
abbrev pub SpellTerms : List Token → List Term → Type 0
SpellTerms ts terms = (c : Condition) × IsTrue (is_shaped ByOr c) × SpellCondition ts c × (terms ≡ terms_of c)

-- ---- the functions that find tests

-- `as-path in S`, or another test of the path
unfoldable pub as_path_in : List Token → Option RplTest
as_path_in ts = first_some (option_map (λ s. PathIn s) (behind (codes "in" ∷ []) (set_in (path_element_in true)) ts)) (option_map (λ t. Path t) (path_test_in true ts))

-- nothing stands there
abbrev pub nothing_in : List Token → Option (List Token)
nothing_in [] = Some []
nothing_in (t ∷ ts) = None

-- a test of the communities
unfoldable pub community_test_in : List Token → Option RplTest
community_test_in ts =
    first_some (option_map (λ s. MatchesAny s) (behind (codes "matches-any" ∷ []) (set_in rect_element_in) ts))
    (first_some (option_map (λ s. MatchesEvery s) (behind (codes "matches-every" ∷ []) (set_in rect_element_in) ts))
    (option_map (λ none. IsEmpty) (behind (codes "is-empty" ∷ []) nothing_in ts)))

-- a test of the prefix or of the next hop
unfoldable pub address_test_in : List Token → Option RplTest
address_test_in ts =
    first_some (option_map (λ s. Destination s) (behind (codes "destination" ∷ codes "in" ∷ []) (set_in (prefix_element_in true)) ts))
    (option_map (λ s. NextHop s) (behind (codes "next-hop" ∷ codes "in" ∷ []) (set_in (prefix_element_in true)) ts))

-- a test of a single value
unfoldable pub value_test_in : List Token → Option RplTest
value_test_in ts =
    first_some (option_map (λ c. Med (record { comparison = c.0; med = c.1 })) (behind (codes "med" ∷ []) (compared_in true (2 ^ 32 - 1)) ts))
    (option_map (λ o. OfOrigin o) (behind (codes "origin" ∷ codes "is" ∷ []) (only (plain_in origin_in)) ts))

-- a test
unfoldable pub test_in : List Token → Option RplTest
test_in ts =
    first_some (address_test_in ts)
    (first_some (behind (codes "as-path" ∷ []) as_path_in ts)
    (first_some (behind (codes "community" ∷ []) community_test_in ts) (value_test_in ts)))

-- ---- where a test ends

-- how many words a set takes that begins here: all up to the first `)`, or one
abbrev pub set_words : List Token → ℕ
set_words ts = elim (after (codes "(" ∷ []) ts) [
  | None ↦ 1
  | Some inner ↦ elim (place_of (codes ")") inner) [ None ↦ length inner + 1 | Some n ↦ n + 2 ]
]

-- the words begin with these
unfoldable pub begin_with : List (List ℕ) → List Token → Bool
begin_with keys ts = elim (after keys ts) [ None ↦ false | Some rest ↦ true ]

-- a test begins here that asks for a set of prefixes
unfoldable pub asks_for_prefixes : List Token → Bool
asks_for_prefixes ts = begin_with (codes "destination" ∷ codes "in" ∷ []) ts || begin_with (codes "next-hop" ∷ codes "in" ∷ []) ts

-- a test begins here that asks for a set of communities
unfoldable pub asks_for_communities : List Token → Bool
asks_for_communities ts = begin_with (codes "community" ∷ codes "matches-any" ∷ []) ts || begin_with (codes "community" ∷ codes "matches-every" ∷ []) ts

-- a test begins here that asks for a set
unfoldable pub asks_for_set : List Token → Bool
asks_for_set ts = asks_for_prefixes ts || (asks_for_communities ts || begin_with (codes "as-path" ∷ codes "in" ∷ []) ts)

-- how many words a test without a set that begins here takes behind its first word
unfoldable pub value_words : List Token → ℕ
value_words ts = elim (begin_with (codes "as-path" ∷ codes "length" ∷ []) ts) [
  | true ↦ 3
  | false ↦ elim (begin_with (codes "community" ∷ codes "is-empty" ∷ []) ts) [ true ↦ 1 | false ↦ 2 ]
]

-- how many words a test that begins here takes behind its first word
unfoldable pub words_behind : List Token → ℕ
words_behind ts = elim (asks_for_set ts) [ true ↦ set_words (drop 2 ts) + 1 | false ↦ value_words ts ]
