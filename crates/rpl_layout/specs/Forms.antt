-- The forms of a plan: its sets first, prefix sets, community sets and path sets, each under the policy's name, a letter
-- and its number; then the policy.
use Rattle.std.specs.Prelude.{◌≡◌, ℕ, ◌+◌, ◌^◌, ◌<◌, List, [], ◌∷◌, ◌++◌, Some, None, map, codes, decimal, length, slice_get}
use Rattle.route_types.specs.Community.{RectParts}
use Rattle.prefix_sets.specs.Range.{RangeParts}
use Rattle.aspath_text.specs.IosRead.{ios_pattern_in}
use Rattle.path_patterns.specs.declared.pattern.IosBranch.{IosBranch}
use Rattle.rpl_words.specs.declared.condition.RplTest.{RplTest}
use Rattle.rpl_words.specs.declared.condition.RplTest.TheVariants.{Destination as OfDestination, NextHop as OfNextHop, PathIn as OfPath, MatchesAny as OfAny, MatchesEvery as OfEvery, IsEmpty, Med, Origin as OfOrigin}
use Rattle.rpl_words.specs.declared.element.Comparison.TheVariants.{Equal, AtLeast, AtMost}
use Rattle.rpl_words.specs.declared.element.Element.{Element as SetElement}
use Rattle.rpl_words.specs.declared.element.Element.TheVariants.{Prefix, Community, Path}
use Rattle.rpl_words.specs.declared.element.PathElement.{PathElement}
use Rattle.rpl_words.specs.declared.element.PathElement.TheVariants.{Pattern}
use Rattle.rpl_words.specs.declared.element.PrefixElement.{PrefixElement}
use Rattle.rpl_words.specs.declared.number.RplNumber.TheVariants.{Fixed}
use Rattle.rpl_words.specs.declared.number.RplSet.TheVariants.{Named}
use Rattle.rpl_forms.specs.declared.item.Header.{Header}
use Rattle.rpl_forms.specs.declared.item.Header.TheVariants.{PrefixSet, CommunitySet, PathSet, Policy}
use Rattle.rpl_forms.specs.declared.item.RplForm.{RplForm}
use Rattle.rpl_forms.specs.declared.item.RplForm.TheVariants.{Header as OfHeader, Element as OfElement, End}
use Rattle.rpl_plans.specs.declared.step.PlannedStep.{PlannedStep}
use Rattle.rpl_plans.specs.declared.test.PlannedTest.{PlannedTest}
use Rattle.rpl_plans.specs.declared.test.PlannedTest.TheVariants.{Destination, NextHop, PathIn, MatchesAny, MatchesEvery, NoCommunity, MedIs, MedAtLeast, MedAtMost, Origin}
use Rattle.rpl_layout.specs.Guards.{Writing}
use Rattle.rpl_layout.specs.Statements.{steps_forms}
use Rattle.rpl_layout.specs.Tests.{EachTest}

-- ---- elements

-- a range as an element of a prefix set
abbrev pub range_element : RangeParts → PrefixElement
range_element x = record { prefix = x.prefix; least = Fixed x.least; most = Fixed x.most }

-- the pattern that a text spells; a plan has no text that spells none
abbrev pub pattern_of : List ℕ → List IosBranch
pattern_of text = elim (ios_pattern_in text) [ None ↦ [] | Some p ↦ p ]

-- a pattern as an element of a path set
abbrev pub path_element : List ℕ → PathElement
path_element text = Pattern (pattern_of text)

-- ---- sets

-- the sets of a plan, those of each sort in the order of their first use
pub record PlannedSets : Type 0 where
  pub prefixes : List (List RangeParts)
  pub communities : List (List RectParts)
  pub paths : List (List (List ℕ))

-- the name of the set at a place, counted from 0: NAME-p1, NAME-p2, ..
abbrev pub set_name : List ℕ → List ℕ → ℕ → List ℕ
set_name name letter place = name ++ (letter ++ decimal (place + 1))

abbrev pub prefix_name : List ℕ → ℕ → List ℕ
prefix_name name place = set_name name (codes "-p") place

abbrev pub community_name : List ℕ → ℕ → List ℕ
community_name name place = set_name name (codes "-c") place

abbrev pub path_name : List ℕ → ℕ → List ℕ
path_name name place = set_name name (codes "-a") place

-- the block of a set
abbrev pub block_of : Header → List SetElement → List RplForm
block_of header elements = OfHeader header ∷ (map OfElement elements ++ End ∷ [])

-- the blocks of sets from a place on, by the first line at a place and the elements of a set
unfoldable pub blocks_from : {D : Type 0} → (ℕ → Header) → (D → List SetElement) → ℕ → List D → List RplForm
blocks_from head elements place [] = []
blocks_from head elements place (s ∷ ss) = block_of (head place) (elements s) ++ blocks_from head elements (place + 1) ss

abbrev pub prefix_elements : List RangeParts → List SetElement
prefix_elements xs = map (λ x. Prefix (range_element x)) xs

abbrev pub community_elements : List RectParts → List SetElement
community_elements rs = map Community rs

abbrev pub path_elements : List (List ℕ) → List SetElement
path_elements ts = map (λ t. Path (path_element t)) ts

abbrev pub prefix_blocks : List ℕ → List (List RangeParts) → List RplForm
prefix_blocks name sets = blocks_from (λ n. PrefixSet (prefix_name name n)) prefix_elements 0 sets

abbrev pub community_blocks : List ℕ → List (List RectParts) → List RplForm
community_blocks name sets = blocks_from (λ n. CommunitySet (community_name name n)) community_elements 0 sets

abbrev pub path_blocks : List ℕ → List (List (List ℕ)) → List RplForm
path_blocks name sets = blocks_from (λ n. PathSet (path_name name n)) path_elements 0 sets

-- ---- tests

-- a planned test as it is written, its set by the name of a set of the plan
abbrev pub Writes : List ℕ → PlannedSets → PlannedTest → RplTest → Type 0
Writes name sets (Destination rs) u = (n : ℕ) × (slice_get sets.prefixes n ≡ Some rs) × (u ≡ OfDestination (Named (prefix_name name n)))
Writes name sets (NextHop rs) u = (n : ℕ) × (slice_get sets.prefixes n ≡ Some rs) × (u ≡ OfNextHop (Named (prefix_name name n)))
Writes name sets (PathIn ts) u = (n : ℕ) × (slice_get sets.paths n ≡ Some ts) × (u ≡ OfPath (Named (path_name name n)))
Writes name sets (MatchesAny rs) u = (n : ℕ) × (slice_get sets.communities n ≡ Some rs) × (u ≡ OfAny (Named (community_name name n)))
Writes name sets (MatchesEvery rs) u = (n : ℕ) × (slice_get sets.communities n ≡ Some rs) × (u ≡ OfEvery (Named (community_name name n)))
Writes name sets NoCommunity u = u ≡ IsEmpty
Writes name sets (MedIs n) u = u ≡ Med (record { comparison = Equal; med = Fixed n })
Writes name sets (MedAtLeast n) u = u ≡ Med (record { comparison = AtLeast; med = Fixed n })
Writes name sets (MedAtMost n) u = u ≡ Med (record { comparison = AtMost; med = Fixed n })
Writes name sets (Origin o) u = u ≡ OfOrigin o

-- the sets can be counted
pub record HasFew (sets : PlannedSets) : Type 0 where
  pub prefixes : length sets.prefixes < 2 ^ 63
  pub communities : length sets.communities < 2 ^ 63
  pub paths : length sets.paths < 2 ^ 63

-- each test of steps is written by a set of the plan
pub record NamesItsSets (name : List ℕ) (sets : PlannedSets) (written : Writing) (steps : List PlannedStep) : Type 0 where
  pub few : HasFew sets
  pub writes : EachTest (λ t. Writes name sets t (written t)) steps

-- ---- the policy

-- the forms of steps over sets, where tests are written so
abbrev pub forms_of : List ℕ → PlannedSets → Writing → List PlannedStep → List RplForm
forms_of name sets written steps =
    prefix_blocks name sets.prefixes
    ++ (community_blocks name sets.communities
    ++ (path_blocks name sets.paths
    ++ (OfHeader (Policy (record { name = name; parameters = [] })) ∷ (steps_forms written steps ++ End ∷ []))))
