-- Tests and conditions: their words may stand in a text, and spell them.
use Rattle.std.proofs.Common.{◌≡◌, refl, ap, ◌∙◌, ℕ, ◌-◌, ◌^◌, true, false, List, [], ◌∷◌, ◌++◌, append_assoc, arith}
use Rattle.std.specs.Prelude.{codes}
use Rattle.std.proofs.lemmas.List.{map-append}
use Rattle.route_types.specs.declared.route.Origin.{Origin}
use Rattle.route_types.specs.declared.route.Origin.TheVariants.{Igp, Egp, Incomplete}
use Rattle.route_types.specs.RouteText.{origin_text}
use Rattle.text_words.specs.RplText.{bare}
use Rattle.rpl_words.specs.Conditions.{Condition, Asks, Grouped, Negated, Both, Either, SpellTest, SpellCondition, terms_of}
use Rattle.rpl_words.specs.Tokens.{Token}
use Rattle.rpl_words.specs.declared.condition.RplTest.{RplTest}
use Rattle.rpl_words.specs.declared.condition.RplTest.TheVariants.{Destination, NextHop as OfNextHop, PathIn, Path, MatchesAny, MatchesEvery, IsEmpty, Med, Origin as OfOrigin}
use Rattle.rpl_words.specs.declared.condition.Term.{Term}
use Rattle.rpl_words.specs.declared.condition.Term.TheVariants.{Group, Not, And, Or}
use Rattle.rpl_text.specs.Words.{Phrase, spaced, laid, word_and, in_parentheses, negated, joined, number_text, comparison_text, test_phrase, operands_joined}
use Rattle.rpl_text.specs.Written.{FitsTest, FitsTests}
use Rattle.rpl_text.proofs.SpelledElements.{values_laid, closing, text_behind, comparison_part, comparison_spelled, path_test, prefix_set, path_set, rect_set}
use Rattle.rpl_text.proofs.Pieces.{AreValues, IsPartText, no_parts, no_values, is_value, value_cons, opened, values_append, token_of, tokens_of}
use Rattle.rpl_text.proofs.SpelledValues.{number_part, number_spelled}

-- ---- tests

-- the words of a test may stand in a statement, and spell it
pub record IsTest (t : RplTest) : Type 0 where
  pub values : AreValues (laid 0 (test_phrase t))
  pub spelled : SpellTest (tokens_of (laid 0 (test_phrase t))) t

pub origin_part : (o : Origin) → IsPartText (origin_text o)
origin_part Igp = record { plain = refl; no_key = refl; no_ender = refl }
origin_part Egp = record { plain = refl; no_key = refl; no_ender = refl }
origin_part Incomplete = record { plain = refl; no_key = refl; no_ender = refl }

-- two words in front of others
two_words : (key more : List ℕ) (p : Phrase) → is_value (record { gap = 0; text = key; quoted = false }) ≡ true → is_value (spaced more) ≡ true → AreValues (laid 0 p) → AreValues (laid 0 (word_and key (spaced more ∷ laid 1 p)))
two_words key more p k m h = value_cons _ (spaced more ∷ laid 1 p) k refl (value_cons (spaced more) (laid 1 p) m refl (values_laid 1 p h))

test_good : (t : RplTest) → FitsTest t → IsTest t
test_good (Destination s) h = let set = prefix_set s h in record { values = two_words (codes "destination") (codes "in") _ refl refl set.values; spelled = (_, refl, set.spelled) }
test_good (OfNextHop s) h = let set = prefix_set s h in record { values = two_words (codes "next-hop") (codes "in") _ refl refl set.values; spelled = (_, refl, set.spelled) }
test_good (PathIn s) h = let set = path_set s h in record { values = two_words (codes "as-path") (codes "in") _ refl refl set.values; spelled = (_, refl, set.spelled) }
test_good (Path t) h = let test = path_test true t h in record { values = value_cons _ (laid 1 _) refl refl (values_laid 1 _ test.parts.values); spelled = (_, refl, test.spelled) }
test_good (MatchesAny s) h = let set = rect_set s h in record { values = two_words (codes "community") (codes "matches-any") _ refl refl set.values; spelled = (_, refl, set.spelled) }
test_good (MatchesEvery s) h = let set = rect_set s h in record { values = two_words (codes "community") (codes "matches-every") _ refl refl set.values; spelled = (_, refl, set.spelled) }
test_good IsEmpty h = record { values = value_cons _ (spaced (codes "is-empty") ∷ []) refl refl (value_cons (spaced (codes "is-empty")) [] refl refl no_values); spelled = refl }
test_good (Med t) h =
    let number = text_behind (number_text t.med) [] (number_part true (2 ^ 32 - 1) t.med (omega arith) h) (no_parts, refl) in
    let behind = text_behind (comparison_text t.comparison) (spaced (number_text t.med) ∷ []) (comparison_part t.comparison) number in
    record {
      values = value_cons _ (spaced (comparison_text t.comparison) ∷ spaced (number_text t.med) ∷ []) refl refl behind.0.values;
      spelled = (_, refl, (_, _, refl, (_, refl, comparison_spelled t.comparison), (_, refl, (_, refl, number_spelled true (2 ^ 32 - 1) t.med h))));
    }
test_good (OfOrigin o) h =
    let behind = text_behind (origin_text o) [] (origin_part o) (no_parts, refl) in
    record {
      values = value_cons _ (spaced (codes "is") ∷ spaced (origin_text o) ∷ []) refl refl (value_cons (spaced (codes "is")) (spaced (origin_text o) ∷ []) refl refl behind.0.values);
      spelled = (_, refl, (_, refl, (origin_text o, refl, refl)));
    }

-- ---- conditions

-- the words of a condition
pub words_of : Condition → Phrase
words_of (Asks t) = test_phrase t
words_of (Grouped c) = in_parentheses (words_of c)
words_of (Negated c) = negated (words_of c)
words_of (Both c d) = joined (codes "and") (words_of c) (words_of d)
words_of (Either c d) = joined (codes "or") (words_of c) (words_of d)

join_terms : (c d : Condition) (key : Term) (ts : List Term) → (terms_of c ++ (terms_of d ++ (key ∷ []))) ++ ts ≡ terms_of c ++ (terms_of d ++ (key ∷ ts))
join_terms c d key ts = append_assoc (terms_of c) (terms_of d ++ (key ∷ [])) ts ∙ ap (λ (xs : List Term). terms_of c ++ xs) (append_assoc (terms_of d) (key ∷ []) ts)

-- the terms of a condition come to its words
pub operands : (c : Condition) (ps : List Phrase) (ts : List Term) → operands_joined ps (terms_of c ++ ts) ≡ operands_joined (words_of c ∷ ps) ts
unfolding operands_joined terms_of words_of
operands (Asks t) ps ts = refl
operands (Grouped c) ps ts = ap (λ (xs : List Term). operands_joined ps xs) (append_assoc (terms_of c) (Group ∷ []) ts) ∙ operands c ps (Group ∷ ts)
operands (Negated c) ps ts = ap (λ (xs : List Term). operands_joined ps xs) (append_assoc (terms_of c) (Not ∷ []) ts) ∙ operands c ps (Not ∷ ts)
operands (Both c d) ps ts = ap (λ (xs : List Term). operands_joined ps xs) (join_terms c d And ts) ∙ operands c ps (terms_of d ++ (And ∷ ts)) ∙ operands d (words_of c ∷ ps) (And ∷ ts)
operands (Either c d) ps ts = ap (λ (xs : List Term). operands_joined ps xs) (join_terms c d Or ts) ∙ operands c ps (terms_of d ++ (Or ∷ ts)) ∙ operands d (words_of c ∷ ps) (Or ∷ ts)

-- the words of a condition may stand in a statement, and spell it
pub record IsCondition (c : Condition) : Type 0 where
  pub values : AreValues (laid 0 (words_of c))
  pub spelled : SpellCondition (tokens_of (laid 0 (words_of c))) c

both_values : (key : List ℕ) (p q : Phrase) → is_value (spaced key) ≡ true → AreValues (laid 0 p) → AreValues (laid 0 q) → AreValues (laid 0 (joined key p q))
both_values key p q k h m = values_append (laid 0 p) (spaced key ∷ laid 1 q) h (value_cons (spaced key) (laid 1 q) k refl (values_laid 1 q m)) refl

pub condition_good : (c : Condition) → FitsTests c → IsCondition c
unfolding FitsTests SpellCondition words_of
condition_good (Asks t) h = let test = test_good t h in record { values = test.values; spelled = test.spelled }
condition_good (Grouped c) h =
    let inner = condition_good c h in
    let p = words_of c in
    record {
      values = opened 0 (laid 0 p ++ (bare (codes ")") ∷ [])) (values_append (laid 0 p) (bare (codes ")") ∷ []) inner.values closing refl);
      spelled = (tokens_of (laid 0 p), ap (λ (ts : List Token). token_of (bare (codes "(")) ∷ ts) (map-append token_of (laid 0 p) (bare (codes ")") ∷ [])), inner.spelled);
    }
condition_good (Negated c) h =
    let inner = condition_good c h in
    record { values = value_cons _ (laid 1 (words_of c)) refl refl (values_laid 1 (words_of c) inner.values); spelled = (tokens_of (laid 1 (words_of c)), refl, inner.spelled) }
condition_good (Both c d) h =
    let left = condition_good c h.0 in
    let right = condition_good d h.1 in
    record {
      values = both_values (codes "and") (words_of c) (words_of d) refl left.values right.values;
      spelled = (tokens_of (laid 0 (words_of c)), tokens_of (laid 1 (words_of d)), map-append token_of (laid 0 (words_of c)) (spaced (codes "and") ∷ laid 1 (words_of d)), left.spelled, right.spelled);
    }
condition_good (Either c d) h =
    let left = condition_good c h.0 in
    let right = condition_good d h.1 in
    record {
      values = both_values (codes "or") (words_of c) (words_of d) refl left.values right.values;
      spelled = (tokens_of (laid 0 (words_of c)), tokens_of (laid 1 (words_of d)), map-append token_of (laid 0 (words_of c)) (spaced (codes "or") ∷ laid 1 (words_of d)), left.spelled, right.spelled);
    }
