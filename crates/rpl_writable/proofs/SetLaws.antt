-- The sets of planned steps that fit: their elements may be written, and so may their blocks.
use Rattle.std.proofs.Common.{◌≡◌, sym, subst, ◌∙◌, ℕ, ◌+◌, ◌^◌, ◌<◌, Bool, true, false, List, [], ◌∷◌, ◌++◌, length, map, append_assoc, arith, Option, Some, None}
use Rattle.std.specs.Prelude.{if◌then◌else◌}
use Rattle.std.specs.List.{list_any, flat_map, AllByRecursion}
use Rattle.std.proofs.lemmas.Bool.{le-leb}
use Rattle.route_types.specs.Community.{RectParts}
use Rattle.prefix_sets.specs.Range.{RangeParts}
use Rattle.path_patterns.specs.Shape.{IsShaped}
use Rattle.path_patterns.specs.declared.pattern.IosBranch.{IosBranch}
use Rattle.aspath_text.proofs.IosReadSpelled.{found_shaped}
use Rattle.path_patterns.proofs.Lists.{all_append}
use Rattle.text_words.specs.declared.rpl_blocks.BlockKind.{BlockKind}
use Rattle.text_words.specs.declared.rpl_blocks.BlockKind.TheVariants.{PrefixSet as PrefixBlock, CommunitySet as CommunityBlock, PathSet as PathBlock}
use Rattle.rpl_words.specs.declared.element.Element.{Element as SetElement}
use Rattle.rpl_words.specs.declared.element.Element.TheVariants.{Prefix, Community, Path}
use Rattle.rpl_forms.specs.declared.item.Header.{Header}
use Rattle.rpl_forms.specs.declared.item.RplForm.{RplForm}
use Rattle.rpl_forms.specs.declared.item.RplForm.TheVariants.{Element as OfElement, End}
use Rattle.rpl_plans.specs.Fits.{FitsRange, FitsRect, FitsText, FitsTest, FitsSteps, FitsStep}
use Rattle.rpl_plans.specs.declared.choice.PlannedTerm.{PlannedTerm}
use Rattle.rpl_plans.specs.declared.step.PlannedLiteral.{PlannedLiteral}
use Rattle.rpl_plans.specs.declared.step.PlannedStep.{PlannedStep}
use Rattle.rpl_plans.specs.declared.test.PlannedTest.{PlannedTest}
use Rattle.rpl_plans.specs.declared.test.PlannedTest.TheVariants.{Destination, NextHop, PathIn, MatchesAny, MatchesEvery, NoCommunity, MedIs, MedAtLeast, MedAtMost, Origin}
use Rattle.rpl_layout.specs.Forms.{range_element, pattern_of, path_element, prefix_elements, community_elements, path_elements, blocks_from}
use Rattle.rpl_layout.specs.Sharing.{Tells, term_tests, literal_tests, tests_of, ranges_in, rects_in, texts_in, noted, noted_all, sets_of}
use Rattle.rpl_layout.specs.Tests.{EachOfTerm, EachOfTerms, EachTest}
use Rattle.rpl_text.specs.Layout.{kind_of}
use Rattle.rpl_text.specs.Written.{FitsPrefix, FitsRect as FitsWrittenRect, FitsElement, FitsHeader, MayStand}

-- ---- what holds of each

pub all_each : {A : Type 0} (P Q : A → Type 0) → ((x : A) → P x → Q x) → (xs : List A) → AllByRecursion P xs → AllByRecursion Q xs
all_each P Q f [] h = tt
all_each P Q f (x ∷ xs) h = (f x h.0, all_each P Q f xs h.1)

pub all_map : {A B : Type 0} (P : A → Type 0) (Q : B → Type 0) (f : A → B) → ((x : A) → P x → Q (f x)) → (xs : List A) → AllByRecursion P xs → AllByRecursion Q (map f xs)
all_map P Q f g [] h = tt
all_map P Q f g (x ∷ xs) h = (g x h.0, all_map P Q f g xs h.1)

all_flat : {A B : Type 0} (P : A → Type 0) (Q : B → Type 0) (f : A → List B) → ((x : A) → P x → AllByRecursion Q (f x)) → (xs : List A) → AllByRecursion P xs → AllByRecursion Q (flat_map f xs)
all_flat P Q f g [] h = tt
all_flat P Q f g (x ∷ xs) h = all_append Q (f x) (flat_map f xs) (g x h.0) (all_flat P Q f g xs h.1)

-- ---- each set once

module _ {D : Type 0} (P : D → Type 0) (same : D → D → Bool) where
  all_noted : (ds : List D) (d : D) → AllByRecursion P ds → P d → AllByRecursion P (noted same ds d)
  all_noted ds d h k = one (list_any (same d) ds) where
    one : (b : Bool) → AllByRecursion P (if b then ds else ds ++ d ∷ [])
    one true = h
    one false = all_append P ds (d ∷ []) h (k, tt)

  noted_fit : (ds xs : List D) → AllByRecursion P ds → AllByRecursion P xs → AllByRecursion P (noted_all same ds xs)
  unfolding noted_all
  noted_fit ds [] h k = h
  noted_fit ds (x ∷ xs) h k = noted_fit (noted same ds x) xs (all_noted ds x h k.0) k.1

-- ---- the tests of steps

module _ (P : PlannedTest → Type 0) where
  term_row : (t : PlannedTerm) → EachOfTerm P t → AllByRecursion P (term_tests t)
  term_row t h = all_append P t.denied (t.permitted ∷ []) h.0 (h.1, tt)

  literal_row : (l : PlannedLiteral) → EachOfTerms P l.terms → AllByRecursion P (literal_tests l)
  literal_row l h =
      all_append P (term_tests l.terms.first) (flat_map term_tests l.terms.others) (term_row l.terms.first h.0)
      (all_flat (EachOfTerm P) P term_tests term_row l.terms.others h.1)

  tests_row : (steps : List PlannedStep) → EachTest P steps → AllByRecursion P (tests_of steps)
  tests_row steps h =
      all_flat (λ s. AllByRecursion (λ l. EachOfTerms P l.terms) s.guard) P (λ s. flat_map literal_tests s.guard)
      (λ s k. all_flat (λ l. EachOfTerms P l.terms) P literal_tests literal_row s.guard k) steps h

-- the tests of steps that fit do
pub tests_fit : (steps : List PlannedStep) → FitsSteps steps → EachTest FitsTest steps
tests_fit steps h = all_each FitsStep (λ s. AllByRecursion (λ l. EachOfTerms FitsTest l.terms) s.guard) (λ s k. k.guard) steps h

ranges_fit : (t : PlannedTest) → FitsTest t → AllByRecursion (AllByRecursion FitsRange) (ranges_in t)
ranges_fit (Destination rs) h = (h, tt)
ranges_fit (NextHop rs) h = (h, tt)
ranges_fit (PathIn ts) h = tt
ranges_fit (MatchesAny rs) h = tt
ranges_fit (MatchesEvery rs) h = tt
ranges_fit NoCommunity h = tt
ranges_fit (MedIs n) h = tt
ranges_fit (MedAtLeast n) h = tt
ranges_fit (MedAtMost n) h = tt
ranges_fit (Origin o) h = tt

rects_fit : (t : PlannedTest) → FitsTest t → AllByRecursion (AllByRecursion FitsRect) (rects_in t)
rects_fit (MatchesAny rs) h = (h, tt)
rects_fit (MatchesEvery rs) h = (h, tt)
rects_fit (Destination rs) h = tt
rects_fit (NextHop rs) h = tt
rects_fit (PathIn ts) h = tt
rects_fit NoCommunity h = tt
rects_fit (MedIs n) h = tt
rects_fit (MedAtLeast n) h = tt
rects_fit (MedAtMost n) h = tt
rects_fit (Origin o) h = tt

texts_fit : (t : PlannedTest) → FitsTest t → AllByRecursion (AllByRecursion FitsText) (texts_in t)
texts_fit (PathIn ts) h = (h, tt)
texts_fit (Destination rs) h = tt
texts_fit (NextHop rs) h = tt
texts_fit (MatchesAny rs) h = tt
texts_fit (MatchesEvery rs) h = tt
texts_fit NoCommunity h = tt
texts_fit (MedIs n) h = tt
texts_fit (MedAtLeast n) h = tt
texts_fit (MedAtMost n) h = tt
texts_fit (Origin o) h = tt

-- ---- elements

range_written : (x : RangeParts) → FitsRange x → FitsPrefix false (range_element x)
range_written x h = record {
  family = h.family;
  masked = h.masked;
  least = omega (arith, h.rises, h.most);
  most = h.most;
  least_reaches = le-leb x.prefix.length x.least h.least;
  most_reaches = le-leb x.prefix.length x.most (omega (arith, h.least, h.rises));
  rises = le-leb x.least x.most h.rises;
}

pub rect_written : (r : RectParts) → FitsRect r → FitsWrittenRect r
rect_written r h = record { high = h.high; low = h.low; high_most = h.high_most; low_most = h.low_most }

text_written : (t : List ℕ) → FitsText t → IsShaped (pattern_of t)
text_written t h = subst (λ (o : Option (List IosBranch)). IsShaped (elim o [ None ↦ [] | Some p ↦ p ])) (sym h.1) (found_shaped t h.0 h.1)

-- ---- the sets of a plan

module _ (tells : Tells) (steps : List PlannedStep) (fits : FitsSteps steps) where
  row : AllByRecursion FitsTest (tests_of steps)
  row = tests_row FitsTest steps (tests_fit steps fits)

  pub prefixes_fit : AllByRecursion (λ xs. AllByRecursion (FitsElement PrefixBlock) (prefix_elements xs)) (sets_of tells steps).prefixes
  prefixes_fit =
      all_each (AllByRecursion FitsRange) (λ xs. AllByRecursion (FitsElement PrefixBlock) (prefix_elements xs))
      (λ xs h. all_map FitsRange (FitsElement PrefixBlock) (λ x. Prefix (range_element x)) range_written xs h)
      (sets_of tells steps).prefixes
      (noted_fit (AllByRecursion FitsRange) tells.ranges [] (flat_map ranges_in (tests_of steps)) tt (all_flat FitsTest (AllByRecursion FitsRange) ranges_in ranges_fit (tests_of steps) row))

  pub communities_fit : AllByRecursion (λ rs. AllByRecursion (FitsElement CommunityBlock) (community_elements rs)) (sets_of tells steps).communities
  communities_fit =
      all_each (AllByRecursion FitsRect) (λ rs. AllByRecursion (FitsElement CommunityBlock) (community_elements rs))
      (λ rs h. all_map FitsRect (FitsElement CommunityBlock) Community rect_written rs h)
      (sets_of tells steps).communities
      (noted_fit (AllByRecursion FitsRect) tells.rects [] (flat_map rects_in (tests_of steps)) tt (all_flat FitsTest (AllByRecursion FitsRect) rects_in rects_fit (tests_of steps) row))

  pub paths_fit : AllByRecursion (λ ts. AllByRecursion (FitsElement PathBlock) (path_elements ts)) (sets_of tells steps).paths
  paths_fit =
      all_each (AllByRecursion FitsText) (λ ts. AllByRecursion (FitsElement PathBlock) (path_elements ts))
      (λ ts h. all_map FitsText (FitsElement PathBlock) (λ t. Path (path_element t)) text_written ts h)
      (sets_of tells steps).paths
      (noted_fit (AllByRecursion FitsText) tells.texts [] (flat_map texts_in (tests_of steps)) tt (all_flat FitsTest (AllByRecursion FitsText) texts_in texts_fit (tests_of steps) row))

-- ---- blocks

elements_stand : (kind : BlockKind) (es : List SetElement) (rest : List RplForm) → AllByRecursion (FitsElement kind) es → MayStand None [] rest → MayStand (Some kind) [] (map OfElement es ++ (End ∷ rest))
unfolding MayStand
elements_stand kind [] rest h more = more
elements_stand kind (e ∷ es) rest h more = (h.0, elements_stand kind es rest h.1 more)

module _ {D : Type 0} (kind : BlockKind) (head : ℕ → Header) (elements : D → List SetElement) (kinds : (n : ℕ) → kind_of (head n) ≡ kind) (heads : (n : ℕ) → n < 2 ^ 63 → FitsHeader (head n)) where
  pub blocks_stand : (from : ℕ) (ds : List D) (rest : List RplForm) → from + length ds < 2 ^ 63 → AllByRecursion (λ d. AllByRecursion (FitsElement kind) (elements d)) ds
      → MayStand None [] rest → MayStand None [] (blocks_from head elements from ds ++ rest)
  unfolding MayStand blocks_from
  blocks_stand from [] rest few h more = more
  blocks_stand from (d ∷ ds) rest few h more =
      let later : List RplForm = blocks_from head elements (from + 1) ds in
      let stands : MayStand (Some kind) [] (map OfElement (elements d) ++ (End ∷ (later ++ rest))) = elements_stand kind (elements d) (later ++ rest) h.0 (blocks_stand (from + 1) ds rest (omega arith) h.1 more) in
      let same : (map OfElement (elements d) ++ End ∷ []) ++ (later ++ rest) ≡ map OfElement (elements d) ++ (End ∷ (later ++ rest)) = append_assoc (map OfElement (elements d)) (End ∷ []) (later ++ rest) in
      let whole : ((map OfElement (elements d) ++ End ∷ []) ++ later) ++ rest ≡ map OfElement (elements d) ++ (End ∷ (later ++ rest)) = append_assoc (map OfElement (elements d) ++ End ∷ []) later rest ∙ same in
      (heads from (omega arith), subst (λ (k : BlockKind). MayStand (Some k) [] (((map OfElement (elements d) ++ End ∷ []) ++ later) ++ rest)) (sym (kinds from)) (subst (λ (fs : List RplForm). MayStand (Some kind) [] fs) (sym whole) stands))
