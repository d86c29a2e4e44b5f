-- The condition of a guard holds where all its literals do.
use Rattle.std.proofs.Common.{◌≡◌, refl, sym, ap, ◌∙◌, Bool, true, false, ◌&&◌, ◌||◌, not, List, [], ◌∷◌, map}
use Rattle.std.specs.Bool.{beq}
use Rattle.std.specs.List.{list_any, list_all}
use Rattle.std.proofs.lemmas.List.Folds.{list_all-append}
use Rattle.rpl_words.specs.Conditions.{Condition, Asks, Negated, Both, Either}
use Rattle.rpl_words.specs.declared.condition.RplTest.{RplTest}
use Rattle.rpl_meaning.specs.Conditions.{condition_holds}
use Rattle.rpl_plans.specs.Choices.{term_holds}
use Rattle.rpl_plans.specs.Plans.{literal_says, guard_says}
use Rattle.rpl_plans.specs.declared.choice.PlannedTerm.{PlannedTerm}
use Rattle.rpl_plans.specs.declared.step.PlannedLiteral.{PlannedLiteral}
use Rattle.rpl_plans.specs.declared.test.PlannedTest.{PlannedTest}
use Rattle.rpl_layout.specs.Guards.{Writing, Conditions, before_others, joined_from, behind_denied, term_conditions, term_condition, terms_condition, unwanted, wanted_among, literal_among, literals_joined, literal_alone, guard_condition}

-- ---- of two answers

and_true : (b : Bool) → (b && true) ≡ b
and_true true = refl
and_true false = refl

or_false : (b : Bool) → (b || false) ≡ b
or_false true = refl
or_false false = refl

and_three : (a b c : Bool) → ((a && b) && c) ≡ (a && (b && c))
and_three true b c = refl
and_three false b c = refl

or_three : (a b c : Bool) → ((a || b) || c) ≡ (a || (b || c))
or_three true b c = refl
or_three false b c = refl

beq_true : (b : Bool) → beq b true ≡ b
beq_true true = refl
beq_true false = refl

beq_false : (b : Bool) → beq b false ≡ not b
beq_false true = refl
beq_false false = refl

-- ---- conditions that are joined

module _ (test : RplTest → Bool) where
  all_joined : (c : Condition) (cs : List Condition) → condition_holds test (joined_from Both c cs) ≡ (condition_holds test c && list_all (condition_holds test) cs)
  unfolding joined_from condition_holds
  all_joined c [] = sym (and_true (condition_holds test c))
  all_joined c (d ∷ ds) = all_joined (Both c d) ds ∙ and_three (condition_holds test c) (condition_holds test d) (list_all (condition_holds test) ds)

  any_joined : (c : Condition) (cs : List Condition) → condition_holds test (joined_from Either c cs) ≡ (condition_holds test c || list_any (condition_holds test) cs)
  unfolding joined_from condition_holds
  any_joined c [] = sym (or_false (condition_holds test c))
  any_joined c (d ∷ ds) = any_joined (Either c d) ds ∙ or_three (condition_holds test c) (condition_holds test d) (list_any (condition_holds test) ds)

  -- all of some conditions hold
  all_hold : Conditions → Bool
  all_hold cs = condition_holds test cs.first && list_all (condition_holds test) cs.others

  all_before : (cs ds : Conditions) → all_hold (before_others cs ds) ≡ (all_hold cs && all_hold ds)
  unfolding all_hold
  all_before cs ds =
      ap (λ b. condition_holds test cs.first && b) (list_all-append (condition_holds test) cs.others (ds.first ∷ ds.others))
      ∙ sym (and_three (condition_holds test cs.first) (list_all (condition_holds test) cs.others) (list_all (condition_holds test) (ds.first ∷ ds.others)))

module _ (test : RplTest → Bool) (written : Writing) where
  nots_hold : (ds : List PlannedTest) → list_all (condition_holds test) (map (λ t. Negated (Asks (written t))) ds) ≡ list_all (λ t. not (test (written t))) ds
  unfolding condition_holds
  nots_hold [] = refl
  nots_hold (d ∷ ds) = ap (λ b. not (test (written d)) && b) (nots_hold ds)

  denied_hold : (ds : List PlannedTest) (p : PlannedTest) → all_hold test (behind_denied written ds p) ≡ (list_all (λ t. not (test (written t))) ds && test (written p))
  unfolding condition_holds all_hold
  denied_hold [] p = and_true (test (written p))
  denied_hold (d ∷ ds) p =
      ap (λ b. not (test (written d)) && b) (list_all-append (condition_holds test) (map (λ t. Negated (Asks (written t))) ds) (Asks (written p) ∷ [])
      ∙ ap (λ b. b && (test (written p) && true)) (nots_hold ds)
      ∙ ap (λ b. list_all (λ t. not (test (written t))) ds && b) (and_true (test (written p))))
      ∙ sym (and_three (not (test (written d))) (list_all (λ t. not (test (written t))) ds) (test (written p)))

  term_answers : (t : PlannedTerm) → condition_holds test (term_condition written t) ≡ term_holds (λ u. test (written u)) t
  unfolding all_hold
  term_answers t =
      all_joined test (term_conditions written t).first (term_conditions written t).others
      ∙ denied_hold t.denied t.permitted

  each_term : (ts : List PlannedTerm) → list_any (condition_holds test) (map (λ u. term_condition written u) ts) ≡ list_any (term_holds (λ u. test (written u))) ts
  each_term [] = refl
  each_term (t ∷ ts) =
      ap (λ b. b || list_any (condition_holds test) (map (λ u. term_condition written u) ts)) (term_answers t)
      ∙ ap (λ b. term_holds (λ u. test (written u)) t || b) (each_term ts)

  terms_answer : (t : PlannedTerm) (ts : List PlannedTerm) → condition_holds test (terms_condition written t ts) ≡ list_any (term_holds (λ u. test (written u))) (t ∷ ts)
  terms_answer t ts =
      any_joined test (term_condition written t) (map (λ u. term_condition written u) ts)
      ∙ ap (λ b. b || list_any (condition_holds test) (map (λ u. term_condition written u) ts)) (term_answers t)
      ∙ ap (λ b. term_holds (λ u. test (written u)) t || b) (each_term ts)

  -- ---- literals

  unwanted_answers : (ds : List PlannedTest) (p : PlannedTest) (ts : List PlannedTerm)
      → condition_holds test (unwanted written ds p ts) ≡ not (list_any (term_holds (λ u. test (written u))) (record { denied = ds; permitted = p } ∷ ts))
  unfolding condition_holds
  unwanted_answers [] p [] = ap not (sym (or_false (test (written p))))
  unwanted_answers [] p (u ∷ us) = ap not (terms_answer (record { denied = []; permitted = p }) (u ∷ us))
  unwanted_answers (d ∷ ds) p ts = ap not (terms_answer (record { denied = d ∷ ds; permitted = p }) ts)

  among_wanted : (t : PlannedTerm) (ts : List PlannedTerm) → all_hold test (wanted_among written t ts) ≡ list_any (term_holds (λ u. test (written u))) (t ∷ ts)
  unfolding condition_holds all_hold
  among_wanted t [] = denied_hold t.denied t.permitted ∙ sym (or_false (term_holds (λ u. test (written u)) t))
  among_wanted t (u ∷ us) = and_true (condition_holds test (terms_condition written t (u ∷ us))) ∙ terms_answer t (u ∷ us)

  among_by : (wanted : Bool) (t : PlannedTerm) (ts : List PlannedTerm)
      → all_hold test (literal_among written (record { terms = record { first = t; others = ts }; wanted = wanted })) ≡ beq (list_any (term_holds (λ u. test (written u))) (t ∷ ts)) wanted
  unfolding all_hold
  among_by true t ts = among_wanted t ts ∙ sym (beq_true (list_any (term_holds (λ u. test (written u))) (t ∷ ts)))
  among_by false t ts =
      and_true (condition_holds test (unwanted written t.denied t.permitted ts))
      ∙ unwanted_answers t.denied t.permitted ts
      ∙ sym (beq_false (list_any (term_holds (λ u. test (written u))) (t ∷ ts)))

  among : (l : PlannedLiteral) → all_hold test (literal_among written l) ≡ literal_says (λ u. test (written u)) l
  among l = among_by l.wanted l.terms.first l.terms.others

  alone_by : (wanted : Bool) (t : PlannedTerm) (ts : List PlannedTerm)
      → condition_holds test (literal_alone written (record { terms = record { first = t; others = ts }; wanted = wanted })) ≡ beq (list_any (term_holds (λ u. test (written u))) (t ∷ ts)) wanted
  alone_by true t ts = terms_answer t ts ∙ sym (beq_true (list_any (term_holds (λ u. test (written u))) (t ∷ ts)))
  alone_by false t ts = unwanted_answers t.denied t.permitted ts ∙ sym (beq_false (list_any (term_holds (λ u. test (written u))) (t ∷ ts)))

  -- ---- guards

  literals_hold : (l : PlannedLiteral) (ms : List PlannedLiteral) → all_hold test (literals_joined written l ms) ≡ guard_says (λ u. test (written u)) (l ∷ ms)
  literals_hold l [] = among l ∙ sym (and_true (literal_says (λ u. test (written u)) l))
  literals_hold l (m ∷ ms) =
      all_before test (literal_among written l) (literals_joined written m ms)
      ∙ ap (λ b. b && all_hold test (literals_joined written m ms)) (among l)
      ∙ ap (λ b. literal_says (λ u. test (written u)) l && b) (literals_hold m ms)

  -- the condition of a guard answers as its literals do, by what tests answer as they are written
  pub guard_answers : (l : PlannedLiteral) (ls : List PlannedLiteral) → condition_holds test (guard_condition written l ls) ≡ guard_says (λ u. test (written u)) (l ∷ ls)
  unfolding all_hold
  guard_answers l [] = alone_by l.wanted l.terms.first l.terms.others ∙ sym (and_true (literal_says (λ u. test (written u)) l))
  guard_answers l (m ∷ ms) =
      all_joined test (literals_joined written l (m ∷ ms)).first (literals_joined written l (m ∷ ms)).others
      ∙ literals_hold l (m ∷ ms)
