-- The elements of sets, and sets: their words may stand in a text, and spell them.
use Rattle.std.proofs.Common.{◌≡◌, refl, sym, ap, subst, ◌∙◌, ℕ, ◌-◌, ◌^◌, ◌≤◌, Bool, true, false, List, [], ◌∷◌, ◌++◌, length, map, append_assoc, arith, inl, inr}
use Rattle.std.specs.Prelude.{codes, decimal, ◌==◌}
use Rattle.std.specs.List.{list_any, list_all, AllByRecursion}
use Rattle.std.proofs.lemmas.Bool.{eqb-true, or_from}
use Rattle.std.proofs.lemmas.List.{map-append}
use Rattle.std.proofs.lemmas.List.Folds.{list_any-append}
use Rattle.route_types.specs.Community.{RectParts}
use Rattle.route_types.proofs.Printed.{IsPlain}
use Rattle.text_words.specs.Pieces.{Piece}
use Rattle.text_words.specs.Signs.{ends_word, are_words}
use Rattle.text_words.specs.RplText.{rpl_signs, bare}
use Rattle.rpl_words.specs.Tokens.{Token, is_key, Behind, UpTo, Commas}
use Rattle.rpl_words.specs.Elements.{IsBound, SpellBounds, SpellPrefixElement, SpellRect, SpellPathTest, SpellPathElement, SpellSet, reaches, rises}
use Rattle.rpl_words.specs.declared.element.Comparison.{Comparison}
use Rattle.rpl_words.specs.declared.element.Comparison.TheVariants.{Equal, AtLeast, AtMost}
use Rattle.rpl_words.specs.declared.element.PrefixElement.{PrefixElement}
use Rattle.rpl_words.specs.declared.element.PathElement.{PathElement}
use Rattle.rpl_words.specs.declared.element.PathElement.TheVariants.{Pattern, Test as PathAsks}
use Rattle.rpl_words.specs.declared.element.PathTest.{PathTest}
use Rattle.rpl_words.specs.declared.element.PathTest.TheVariants.{Length, PassesThrough, OriginatesFrom, NeighborIs}
use Rattle.rpl_words.specs.declared.number.RplNumber.{RplNumber}
use Rattle.rpl_words.specs.declared.number.RplNumber.TheVariants.{Fixed, Parameter as GivenNumber}
use Rattle.rpl_words.specs.declared.number.RplSet.{RplSet}
use Rattle.rpl_words.specs.declared.number.RplSet.TheVariants.{Named, Parameter as GivenSet, Listed}
use Rattle.rpl_words.specs.Values.{comparisons}
use Rattle.policy_text.specs.Phrases.{IsOneOf}
use Rattle.rpl_text.specs.Patterns.{pattern_text}
use Rattle.rpl_text.specs.Words.{Phrase, spaced, in_quotes, laid, word, word_and, commas, listed, given, number_text, comparison_text, rect_text, two_bounds, bounds_by, bounds_words, prefix_phrase, rect_phrase, path_test_phrase, path_phrase, set_phrase}
use Rattle.rpl_text.specs.Written.{FitsNumber, FitsPrefix, FitsRect, FitsPathTest, FitsPath, FitsSet}
use Rattle.rpl_text.proofs.SpelledPatterns.{pattern_spelled, pattern_quotable}
use Rattle.rpl_text.proofs.Pieces.{AreValues, AreParts, IsPart, IsPartText, part_fits, no_values, no_parts, value_cons, opened, separated, part_cons, values_append, token_of, tokens_of, is_listed, none_key, no_comma, no_closing, all_listed}
use Rattle.rpl_text.proofs.SpelledValues.{decimal_part, given_part, given_spelled, number_part, number_spelled, quoted_part, number_quoted, rect_part, rect_spelled, prefix_part, prefix_spelled, name_value}

-- words of an element that may stand behind another word
abbrev pub AreBehind : List Piece → Type 0
AreBehind xs = AreParts xs × (ends_word rpl_signs xs ≡ true)

pub one_part : (gap : ℕ) (text : List ℕ) → IsPartText text → AreParts (laid gap (word text))
one_part gap text h = part_cons (record { gap = gap; text = text; quoted = false }) [] (part_fits gap text h) refl no_parts

pub text_behind : (text : List ℕ) (xs : List Piece) → IsPartText text → AreBehind xs → AreBehind (spaced text ∷ xs)
text_behind text xs h more = (part_cons (spaced text) xs (part_fits 1 text h) more.1 more.0, refl)

-- ---- prefixes

two_parts : (within : Bool) (least most : RplNumber ℕ) → FitsNumber within 32 least → FitsNumber within 32 most → AreBehind (two_bounds least most)
two_parts within least most l m =
    let last = text_behind (number_text most) [] (number_part within 32 most (omega arith) m) (no_parts, refl) in
    let le = part_cons (spaced (codes "le")) (spaced (number_text most) ∷ []) (record { value = refl; free = refl }) refl last.0 in
    let low = text_behind (number_text least) (spaced (codes "le") ∷ spaced (number_text most) ∷ []) (number_part within 32 least (omega arith) l) (le, refl) in
    (part_cons (spaced (codes "ge")) (spaced (number_text least) ∷ spaced (codes "le") ∷ spaced (number_text most) ∷ []) (record { value = refl; free = refl }) refl low.0, refl)

bounds_by_parts : (one full top : Bool) (least most : ℕ) → least ≤ 32 → most ≤ 32 → AreBehind (bounds_by one full top least most)
bounds_by_parts true true top least most l m = (no_parts, refl)
bounds_by_parts true false top least most l m =
    (part_cons (spaced (codes "eq")) (spaced (decimal most) ∷ []) (record { value = refl; free = refl }) refl (text_behind (decimal most) [] (decimal_part most (omega arith)) (no_parts, refl)).0, refl)
bounds_by_parts false true top least most l m =
    (part_cons (spaced (codes "le")) (spaced (decimal most) ∷ []) (record { value = refl; free = refl }) refl (text_behind (decimal most) [] (decimal_part most (omega arith)) (no_parts, refl)).0, refl)
bounds_by_parts false false true least most l m =
    (part_cons (spaced (codes "ge")) (spaced (decimal least) ∷ []) (record { value = refl; free = refl }) refl (text_behind (decimal least) [] (decimal_part least (omega arith)) (no_parts, refl)).0, refl)
bounds_by_parts false false false least most l m = two_parts true (Fixed least) (Fixed most) l m

bounds_parts : (within : Bool) (n : ℕ) (least most : RplNumber ℕ) → FitsNumber within 32 least → FitsNumber within 32 most → AreBehind (bounds_words n least most)
bounds_parts within n (Fixed least) (Fixed most) l m = bounds_by_parts (least == most) (least == n) (most == 32) least most l m
bounds_parts within n (Fixed least) (GivenNumber y) l m = two_parts within (Fixed least) (GivenNumber y) l m
bounds_parts within n (GivenNumber x) (Fixed most) l m = two_parts within (GivenNumber x) (Fixed most) l m
bounds_parts within n (GivenNumber x) (GivenNumber y) l m = two_parts within (GivenNumber x) (GivenNumber y) l m

bound_spelled : (within : Bool) (n : ℕ) (b : RplNumber ℕ) → FitsNumber within 32 b → reaches n b ≡ true → IsBound within n (token_of (spaced (number_text b))) b
bound_spelled within n b h reach = ((number_text b, refl, number_spelled within 32 b h), reach)

two_spelled : (within : Bool) (n : ℕ) (least most : RplNumber ℕ) → FitsNumber within 32 least → FitsNumber within 32 most → reaches n least ≡ true → reaches n most ≡ true → rises least most ≡ true
    → SpellBounds within n (tokens_of (two_bounds least most)) (least, most)
two_spelled within n least most l m a b up =
    inr (inr (inr (inr ((_, refl, (_, _, refl, bound_spelled within n least l a, (_, refl, (_, refl, bound_spelled within n most m b)))), up))))

bounds_by_spelled : (one full top within : Bool) (n least most : ℕ) → (least == most) ≡ one → (least == n) ≡ full → (most == 32) ≡ top → least ≤ 32 → most ≤ 32
    → reaches n (Fixed least) ≡ true → reaches n (Fixed most) ≡ true → rises (Fixed least) (Fixed most) ≡ true → SpellBounds within n (tokens_of (bounds_by one full top least most)) (Fixed least, Fixed most)
bounds_by_spelled true true top within n least most e f g l m a b up =
    let low : least ≡ n = eqb-true least n f in
    let same : least ≡ most = eqb-true least most e in
    inl (refl, ap (λ (k : ℕ). Fixed k) low, ap (λ (k : ℕ). Fixed k) (sym same ∙ low))
bounds_by_spelled true false top within n least most e f g l m a b up =
    inr (inr (inr (inl ((_, refl, (_, refl, bound_spelled within n (Fixed most) m b)), ap (λ (k : ℕ). Fixed k) (eqb-true least most e)))))
bounds_by_spelled false true top within n least most e f g l m a b up =
    inr (inr (inl (ap (λ (k : ℕ). Fixed k) (eqb-true least n f), (_, refl, (_, refl, bound_spelled within n (Fixed most) m b)))))
bounds_by_spelled false false true within n least most e f g l m a b up =
    inr (inl ((_, refl, (_, refl, bound_spelled within n (Fixed least) l a)), ap (λ (k : ℕ). Fixed k) (eqb-true most 32 g)))
bounds_by_spelled false false false within n least most e f g l m a b up = two_spelled within n (Fixed least) (Fixed most) l m a b up

bounds_spelled : (within : Bool) (n : ℕ) (least most : RplNumber ℕ) → FitsNumber within 32 least → FitsNumber within 32 most → reaches n least ≡ true → reaches n most ≡ true → rises least most ≡ true
    → SpellBounds within n (tokens_of (bounds_words n least most)) (least, most)
bounds_spelled within n (Fixed least) (Fixed most) l m a b up = bounds_by_spelled (least == most) (least == n) (most == 32) within n least most refl refl refl l m a b up
bounds_spelled within n (Fixed least) (GivenNumber y) l m a b up = two_spelled within n (Fixed least) (GivenNumber y) l m a b up
bounds_spelled within n (GivenNumber x) (Fixed most) l m a b up = two_spelled within n (GivenNumber x) (Fixed most) l m a b up
bounds_spelled within n (GivenNumber x) (GivenNumber y) l m a b up = two_spelled within n (GivenNumber x) (GivenNumber y) l m a b up

-- ---- elements

-- the words of an element may stand in a text, and spell it
pub record IsElement {E : Type 0} (f : E → Phrase) (P : List Token → E → Type 0) (e : E) : Type 0 where
  pub parts : AreParts (laid 0 (f e))
  pub spelled : P (tokens_of (laid 0 (f e))) e

pub prefix_element : (within : Bool) (e : PrefixElement) → FitsPrefix within e → IsElement prefix_phrase (SpellPrefixElement within) e
prefix_element within e h =
    let plain : IsPlain e.prefix = record { family = h.family; masked = h.masked } in
    let bounds = bounds_parts within (e.prefix.length) e.least e.most h.least h.most in
    record {
      parts = part_cons _ (bounds_words (e.prefix.length) e.least e.most) (part_fits 0 _ (prefix_part e.prefix plain)) bounds.1 bounds.0;
      spelled = inl (_, _, refl, (_, refl, prefix_spelled e.prefix plain), bounds_spelled within (e.prefix.length) e.least e.most h.least h.most h.least_reaches h.most_reaches h.rises);
    }

pub rect_element : (r : RectParts) → FitsRect r → IsElement rect_phrase SpellRect r
rect_element r h = record { parts = one_part 0 (rect_text r) (rect_part r h); spelled = (_, refl, (rect_text r, refl, rect_spelled r h)) }

pub comparison_part : (c : Comparison) → IsPartText (comparison_text c)
comparison_part Equal = record { plain = refl; no_key = refl; no_ender = refl }
comparison_part AtLeast = record { plain = refl; no_key = refl; no_ender = refl }
comparison_part AtMost = record { plain = refl; no_key = refl; no_ender = refl }

pub comparison_spelled : (c : Comparison) → IsOneOf comparisons (comparison_text c) c
comparison_spelled Equal = inl (refl, refl)
comparison_spelled AtLeast = inr (inr (inl (refl, refl)))
comparison_spelled AtMost = inr (inr (inr (inl (refl, refl))))

number_test : (key : List ℕ) (within : Bool) (n : RplNumber ℕ) → IsPart (record { gap = 0; text = key; quoted = false }) → FitsNumber within (2 ^ 32 - 1) n → AreParts (laid 0 (word_and key (in_quotes (number_text n) ∷ [])))
number_test key within n k h = part_cons _ (in_quotes (number_text n) ∷ []) k refl (part_cons (in_quotes (number_text n)) [] (number_quoted within (2 ^ 32 - 1) n (omega arith) h) refl no_parts)

pub path_test : (within : Bool) (t : PathTest) → FitsPathTest within t → IsElement path_test_phrase (SpellPathTest within) t
path_test within (Length t) h =
    let number = text_behind (number_text t.length) [] (number_part within 2047 t.length (omega arith) h) (no_parts, refl) in
    let behind = text_behind (comparison_text t.comparison) (spaced (number_text t.length) ∷ []) (comparison_part t.comparison) number in
    record {
      parts = part_cons _ (spaced (comparison_text t.comparison) ∷ spaced (number_text t.length) ∷ []) (record { value = refl; free = refl }) refl behind.0;
      spelled = (_, refl, (_, _, refl, (_, refl, comparison_spelled t.comparison), (_, refl, (_, refl, number_spelled within 2047 t.length h))));
    }
path_test within (PassesThrough n) h = record { parts = number_test (codes "passes-through") within n (record { value = refl; free = refl }) h; spelled = (_, refl, (_, refl, (_, refl, number_spelled within (2 ^ 32 - 1) n h))) }
path_test within (OriginatesFrom n) h = record { parts = number_test (codes "originates-from") within n (record { value = refl; free = refl }) h; spelled = (_, refl, (_, refl, (_, refl, number_spelled within (2 ^ 32 - 1) n h))) }
path_test within (NeighborIs n) h = record { parts = number_test (codes "neighbor-is") within n (record { value = refl; free = refl }) h; spelled = (_, refl, (_, refl, (_, refl, number_spelled within (2 ^ 32 - 1) n h))) }

pub path_element : (within : Bool) (e : PathElement) → FitsPath within e → IsElement path_phrase (SpellPathElement within) e
path_element within (Pattern bs) h = record {
  parts = part_cons _ (in_quotes (pattern_text bs) ∷ []) (record { value = refl; free = refl }) refl (part_cons (in_quotes (pattern_text bs)) [] (quoted_part (pattern_text bs) (pattern_quotable bs)) refl no_parts);
  spelled = (_, refl, (_, refl, (pattern_text bs, refl, pattern_spelled bs h)));
}
path_element within (PathAsks t) h = let p = path_test within t h in record { parts = p.parts; spelled = p.spelled }

-- ---- lists in parentheses

-- the words of an item of a list may stand in a statement, and spell it
pub record IsItem {E : Type 0} (f : E → Phrase) (P : List Token → E → Type 0) (e : E) : Type 0 where
  pub values : AreValues (laid 0 (f e))
  pub listed : list_all is_listed (laid 0 (f e)) ≡ true
  pub spelled : P (tokens_of (laid 0 (f e))) e

item_of : {E : Type 0} (f : E → Phrase) (P : List Token → E → Type 0) (e : E) → IsElement f P e → IsItem f P e
item_of f P e h = record { values = h.parts.values; listed = all_listed (laid 0 (f e)) h.parts.free; spelled = h.spelled }

pub values_laid : (gap : ℕ) (p : Phrase) → AreValues (laid 0 p) → AreValues (laid gap p)
unfolding are_words
values_laid gap p h = record { words = h.words; values = h.values }

pub closing : AreValues (bare (codes ")") ∷ [])
unfolding are_words
closing = record { words = refl; values = refl }

module _ {E : Type 0} (f : E → Phrase) (P : List Token → E → Type 0) where
  -- each item of a list is one
  abbrev AreItems : List E → Type 0
  AreItems es = AllByRecursion (IsItem f P) es

  commas_values : (gap : ℕ) (es : List E) → AreItems es → AreValues (commas gap (map f es) ++ (bare (codes ")") ∷ []))
  commas_values gap [] h = closing
  commas_values gap (e ∷ []) h = values_append (laid gap (f e)) (bare (codes ")") ∷ []) (values_laid gap (f e) h.0.values) closing refl
  commas_values gap (e ∷ d ∷ ds) h =
      let more = commas 1 (map f (d ∷ ds)) in
      let close = bare (codes ")") ∷ [] in
      subst AreValues (sym (append_assoc (laid gap (f e)) (bare (codes ",") ∷ more) close))
      (values_append (laid gap (f e)) (bare (codes ",") ∷ (more ++ close)) (values_laid gap (f e) h.0.values) (separated (more ++ close) (commas_values 1 (d ∷ ds) h.1)) refl)

  commas_free : (gap : ℕ) (es : List E) → AreItems es → list_any (is_key (codes ")")) (tokens_of (commas gap (map f es))) ≡ false
  commas_free gap [] h = refl
  commas_free gap (e ∷ []) h = none_key is_listed (codes ")") (laid gap (f e)) no_closing h.0.listed
  commas_free gap (e ∷ d ∷ ds) h =
      let more = bare (codes ",") ∷ commas 1 (map f (d ∷ ds)) in
      ap (λ (ts : List Token). list_any (is_key (codes ")")) ts) (map-append token_of (laid gap (f e)) more)
      ∙ list_any-append (is_key (codes ")")) (tokens_of (laid gap (f e))) (tokens_of more)
      ∙ or_from (list_any (is_key (codes ")")) (tokens_of (laid gap (f e)))) (list_any (is_key (codes ")")) (tokens_of more)) (none_key is_listed (codes ")") (laid gap (f e)) no_closing h.0.listed) (commas_free 1 (d ∷ ds) h.1)

  commas_spelled : (gap : ℕ) (es : List E) → 1 ≤ length es → AreItems es → Commas P (tokens_of (commas gap (map f es))) es
  commas_spelled gap [] some h = absurd (omega arith)
  commas_spelled gap (e ∷ []) some h = (none_key is_listed (codes ",") (laid gap (f e)) no_comma h.0.listed, h.0.spelled)
  commas_spelled gap (e ∷ d ∷ ds) some h =
      let more = bare (codes ",") ∷ commas 1 (map f (d ∷ ds)) in
      (tokens_of (laid gap (f e)), tokens_of (commas 1 (map f (d ∷ ds))), map-append token_of (laid gap (f e)) more, none_key is_listed (codes ",") (laid gap (f e)) no_comma h.0.listed, h.0.spelled, commas_spelled 1 (d ∷ ds) (omega arith) h.1)

  -- the words of a list in parentheses may stand in a statement, and spell it
  pub list_values : (es : List E) → AreItems es → AreValues (laid 0 (listed (map f es)))
  list_values es h = opened 0 (commas 0 (map f es) ++ (bare (codes ")") ∷ [])) (commas_values 0 es h)

  pub list_spelled : (es : List E) → 1 ≤ length es → AreItems es → Behind (codes "(" ∷ []) (UpTo (codes ")") (Commas P)) (tokens_of (laid 0 (listed (map f es)))) es
  list_spelled es some h =
      let inner = commas 0 (map f es) in
      (tokens_of (inner ++ (bare (codes ")") ∷ [])), refl, (tokens_of inner, map-append token_of inner (bare (codes ")") ∷ []), commas_free 0 es h, commas_spelled 0 es some h))

-- ---- sets

-- the words of a set may stand in a statement, and spell it
pub record IsSet {E : Type 0} (f : E → Phrase) (P : List Token → E → Type 0) (s : RplSet E) : Type 0 where
  pub values : AreValues (laid 0 (set_phrase f s))
  pub spelled : SpellSet P (tokens_of (laid 0 (set_phrase f s))) s

all_elements : {E : Type 0} (f : E → Phrase) (P : List Token → E → Type 0) (Q : E → Type 0) → ((e : E) → Q e → IsElement f P e) → (es : List E) → AllByRecursion Q es → AllByRecursion (IsItem f P) es
all_elements f P Q law [] h = tt
all_elements f P Q law (e ∷ es) h = (item_of f P e (law e h.0), all_elements f P Q law es h.1)

set_good : {E : Type 0} (f : E → Phrase) (P : List Token → E → Type 0) (Q : E → Type 0) → ((e : E) → Q e → IsElement f P e) → (s : RplSet E) → FitsSet Q s → IsSet f P s
set_good f P Q law (Named n) h = record { values = value_cons _ [] (name_value 0 n h) refl no_values; spelled = (_, refl, (n, refl, record { named = h.named; is = refl })) }
set_good f P Q law (GivenSet x) h = record { values = (one_part 0 (given x) (given_part x h)).values; spelled = (_, refl, (given x, refl, given_spelled x h)) }
set_good f P Q law (Listed es) h =
    let each = all_elements f P Q law es h.1 in
    record { values = list_values f P es each; spelled = list_spelled f P es h.0 each }

pub prefix_set : (s : RplSet PrefixElement) → FitsSet (FitsPrefix true) s → IsSet prefix_phrase (SpellPrefixElement true) s
prefix_set s h = set_good prefix_phrase (SpellPrefixElement true) (FitsPrefix true) (prefix_element true) s h

pub path_set : (s : RplSet PathElement) → FitsSet (FitsPath true) s → IsSet path_phrase (SpellPathElement true) s
path_set s h = set_good path_phrase (SpellPathElement true) (FitsPath true) (path_element true) s h

pub rect_set : (s : RplSet RectParts) → FitsSet FitsRect s → IsSet rect_phrase SpellRect s
rect_set s h = set_good rect_phrase SpellRect FitsRect rect_element s h
