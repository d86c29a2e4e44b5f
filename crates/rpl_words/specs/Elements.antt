-- The elements of sets, and sets as a policy writes them (Cisco IOS XR Routing Configuration Guide,
-- 'prefix-set', 'community-set', 'as-path-set'). Within a policy a number may be a parameter, in a set
-- that stands by itself it may not. First what the words are; behind it the functions that find the
-- values, in the same order.
use Rattle.std.specs.Prelude.{◌≡◌, ℕ, ◌-◌, ◌≤◌, ◌^◌, Bool, true, false, ◌⊎◌, nat_le, List, [], ◌∷◌, ◌++◌, Option, Some, None, codes, map, option_map}
use Rattle.route_types.specs.Address.{PrefixParts, prefix_of}
use Rattle.route_types.specs.Community.{RectParts}
use Rattle.route_types.specs.Words.{◌>>=◌, when, number_in, prefix_in, address_in, IsNumber, IsPrefix, IsAddress}
use Rattle.route_types.specs.declared.address.Address.{Address}
use Rattle.policy_text.specs.Names.{first_some}
use Rattle.policy_text.specs.Phrases.{IsOneOf}
use Rattle.aspath_text.specs.IosGrammar.{SpellsPattern}
use Rattle.aspath_text.specs.IosRead.{ios_pattern_in}
use Rattle.rpl_words.specs.Tokens.{Token, plain, IsPlain, IsQuoted, One, Behind, First, Listed, plain_in, quoted_in, only, behind, first_of, listed_in}
use Rattle.rpl_words.specs.Values.{comparisons, IsInnerName, IsParameter, IsNumberWord, IsRect, inner_name_in, parameter_in, given_in, rpl_number_in, comparison_in, rect_in}
use Rattle.rpl_words.specs.declared.number.RplNumber.{RplNumber}
use Rattle.rpl_words.specs.declared.number.RplNumber.TheVariants.{Fixed, Parameter as GivenNumber}
use Rattle.rpl_words.specs.declared.number.RplSet.{RplSet}
use Rattle.rpl_words.specs.declared.number.RplSet.TheVariants.{Named, Parameter as GivenSet, Listed as Written}
use Rattle.rpl_words.specs.declared.element.Comparison.{Comparison}
use Rattle.rpl_words.specs.declared.element.PrefixElement.{PrefixElement}
use Rattle.rpl_words.specs.declared.element.PathElement.{PathElement}
use Rattle.rpl_words.specs.declared.element.PathElement.TheVariants.{Pattern, Test}
use Rattle.rpl_words.specs.declared.element.PathTest.{PathTest}
use Rattle.rpl_words.specs.declared.element.PathTest.TheVariants.{Length, PassesThrough, OriginatesFrom, NeighborIs}

-- the element of a prefix with its two bounds
abbrev pub with_bounds : PrefixParts → RplNumber ℕ × RplNumber ℕ → PrefixElement
with_bounds p bounds = record { prefix = p; least = bounds.0; most = bounds.1 }

-- the one bound is at most the other, where both are written
abbrev pub rises : RplNumber ℕ → RplNumber ℕ → Bool
rises (Fixed least) (Fixed most) = nat_le least most
rises _ _ = true

-- a bound is at least the length of its prefix, where it is written
abbrev pub reaches : ℕ → RplNumber ℕ → Bool
reaches length bound = rises (Fixed length) bound

-- ---- what the words are

-- a bound behind a prefix of this length: a number up to 32
abbrev pub IsBound : Bool → ℕ → Token → RplNumber ℕ → Type 0
IsBound within length t b = IsPlain (IsNumberWord within 32) t b × (reaches length b ≡ true)

-- what stands behind a prefix of this length, and the least and the most length that it gives
abbrev pub SpellBounds : Bool → ℕ → List Token → RplNumber ℕ × RplNumber ℕ → Type 0
SpellBounds within length ts (least, most) =
    ((ts ≡ []) × (least ≡ Fixed length) × (most ≡ Fixed length))
    ⊎ (Behind (codes "ge" ∷ []) (One (IsBound within length)) ts least × (most ≡ Fixed 32))
    ⊎ ((least ≡ Fixed length) × Behind (codes "le" ∷ []) (One (IsBound within length)) ts most)
    ⊎ (Behind (codes "eq" ∷ []) (One (IsBound within length)) ts most × (least ≡ most))
    ⊎ (Behind (codes "ge" ∷ []) (First (IsBound within length) (Behind (codes "le" ∷ []) (One (IsBound within length)))) ts (least, most) × (rises least most ≡ true))

-- an element of a prefix set: a prefix and its bounds, or an address alone, which is a prefix of full length
abbrev pub SpellPrefixElement : Bool → List Token → PrefixElement → Type 0
SpellPrefixElement within ts e =
    First (IsPlain IsPrefix) (SpellBounds within e.prefix.length) ts (e.prefix, (e.least, e.most))
    ⊎ ((a : Address) × One (IsPlain IsAddress) ts a × (e ≡ with_bounds (prefix_of a 32) (Fixed 32, Fixed 32)))

-- an element of a community set
abbrev pub SpellRect : List Token → RectParts → Type 0
SpellRect ts r = One (IsPlain IsRect) ts r

-- how a number compares with another one: a comparison, and a word that spells the number
abbrev pub SpellCompared : Bool → ℕ → List Token → Comparison × RplNumber ℕ → Type 0
SpellCompared within most ts c = First (IsPlain (IsOneOf comparisons)) (One (IsPlain (IsNumberWord within most))) ts c

-- a test of a path
abbrev pub SpellPathTest : Bool → List Token → PathTest → Type 0
SpellPathTest within ts (Length t) = Behind (codes "length" ∷ []) (SpellCompared within 2047) ts (t.comparison, t.length)
SpellPathTest within ts (PassesThrough n) = Behind (codes "passes-through" ∷ []) (One (IsQuoted (IsNumberWord within (2 ^ 32 - 1)))) ts n
SpellPathTest within ts (OriginatesFrom n) = Behind (codes "originates-from" ∷ []) (One (IsQuoted (IsNumberWord within (2 ^ 32 - 1)))) ts n
SpellPathTest within ts (NeighborIs n) = Behind (codes "neighbor-is" ∷ []) (One (IsQuoted (IsNumberWord within (2 ^ 32 - 1)))) ts n

-- an element of a path set
abbrev pub SpellPathElement : Bool → List Token → PathElement → Type 0
SpellPathElement within ts (Pattern p) = Behind (codes "ios-regex" ∷ []) (One (IsQuoted SpellsPattern)) ts p
SpellPathElement within ts (Test t) = SpellPathTest within ts t

-- a set within a policy: a name, a parameter, or elements in parentheses
abbrev pub SpellSet : {E : Type 0} → (List Token → E → Type 0) → List Token → RplSet E → Type 0
SpellSet P ts (Named n) = One (IsPlain IsInnerName) ts n
SpellSet P ts (GivenSet x) = One (IsPlain IsParameter) ts x
SpellSet P ts (Written es) = Listed P ts es

-- ---- the functions that find them

-- a bound behind a prefix of this length
unfoldable pub bound_in : Bool → ℕ → Token → Option (RplNumber ℕ)
bound_in within length t = do
  b ← plain_in (rpl_number_in within 32) t
  when (reaches length b) b

-- `ge G le E`
unfoldable pub two_bounds_in : Bool → ℕ → List Token → Option (RplNumber ℕ × RplNumber ℕ)
two_bounds_in within length ts = do
  b ← behind (codes "ge" ∷ []) (first_of (bound_in within length) (behind (codes "le" ∷ []) (only (bound_in within length)))) ts
  when (rises b.0 b.1) b

-- `ge G`, `le E` or `eq E`
unfoldable pub one_bound_in : Bool → ℕ → List Token → Option (RplNumber ℕ × RplNumber ℕ)
one_bound_in within length ts =
    first_some (option_map (λ b. (b, Fixed 32)) (behind (codes "ge" ∷ []) (only (bound_in within length)) ts))
    (first_some (option_map (λ b. (Fixed length, b)) (behind (codes "le" ∷ []) (only (bound_in within length)) ts))
    (option_map (λ b. (b, b)) (behind (codes "eq" ∷ []) (only (bound_in within length)) ts)))

-- what stands behind a prefix of this length
unfoldable pub rpl_bounds_in : Bool → ℕ → List Token → Option (RplNumber ℕ × RplNumber ℕ)
rpl_bounds_in within length [] = Some (Fixed length, Fixed length)
rpl_bounds_in within length (t ∷ ts) = first_some (one_bound_in within length (t ∷ ts)) (two_bounds_in within length (t ∷ ts))

-- a prefix and its bounds
unfoldable pub bounded_in : Bool → List Token → Option PrefixElement
bounded_in within [] = None
bounded_in within (t ∷ ts) = do
  p ← plain_in prefix_in t
  bounds ← rpl_bounds_in within p.length ts
  Some (with_bounds p bounds)

-- an element of a prefix set
unfoldable pub prefix_element_in : Bool → List Token → Option PrefixElement
prefix_element_in within ts = first_some (bounded_in within ts) (option_map (λ a. with_bounds (prefix_of a 32) (Fixed 32, Fixed 32)) (only (plain_in address_in) ts))

-- an element of a community set
unfoldable pub rect_element_in : List Token → Option RectParts
rect_element_in ts = only (plain_in rect_in) ts

-- how a number compares with another one
unfoldable pub compared_in : Bool → ℕ → List Token → Option (Comparison × RplNumber ℕ)
compared_in within most ts = first_of (plain_in comparison_in) (only (plain_in (rpl_number_in within most))) ts

-- a number in quotes behind a keyword
unfoldable pub quoted_number_in : Bool → List ℕ → List Token → Option (RplNumber ℕ)
quoted_number_in within key ts = behind (key ∷ []) (only (quoted_in (rpl_number_in within (2 ^ 32 - 1)))) ts

-- a test of a number that stands in the path
unfoldable pub standing_test_in : Bool → List Token → Option PathTest
standing_test_in within ts =
    first_some (option_map (λ n. PassesThrough n) (quoted_number_in within (codes "passes-through") ts))
    (first_some (option_map (λ n. OriginatesFrom n) (quoted_number_in within (codes "originates-from") ts))
    (option_map (λ n. NeighborIs n) (quoted_number_in within (codes "neighbor-is") ts)))

-- a test of a path
unfoldable pub path_test_in : Bool → List Token → Option PathTest
path_test_in within ts =
    first_some (option_map (λ c. Length (record { comparison = c.0; length = c.1 })) (behind (codes "length" ∷ []) (compared_in within 2047) ts)) (standing_test_in within ts)

-- an element of a path set
unfoldable pub path_element_in : Bool → List Token → Option PathElement
path_element_in within ts =
    first_some (option_map (λ p. Pattern p) (behind (codes "ios-regex" ∷ []) (only (quoted_in ios_pattern_in)) ts))
    (option_map (λ t. Test t) (path_test_in within ts))

-- the name of a set, or a parameter
unfoldable pub set_word_in : {E : Type 0} → List ℕ → Option (RplSet E)
set_word_in word = first_some (option_map (λ n. Named n) (inner_name_in word)) (option_map (λ x. GivenSet x) (parameter_in word))

-- a set within a policy
unfoldable pub set_in : {E : Type 0} → (List Token → Option E) → List Token → Option (RplSet E)
set_in f ts = first_some (only (plain_in set_word_in) ts) (option_map (λ es. Written es) (listed_in f ts))
