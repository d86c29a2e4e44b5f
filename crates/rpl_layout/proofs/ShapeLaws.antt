-- The words of a guard's condition bind as they are joined.
use Rattle.std.proofs.Common.{◌≡◌, refl, ap, ◌∙◌, Bool, true, false, ◌&&◌, List, [], ◌∷◌, map}
use Rattle.std.specs.List.{list_all}
use Rattle.std.proofs.lemmas.Bool.{and_parts, and_from}
use Rattle.std.proofs.lemmas.List.Folds.{list_all-append}
use Rattle.rpl_words.specs.Conditions.{Condition, Asks, Grouped, Negated, Both, Either, Binding, ByOr, ByAnd, ByNot, is_shaped}
use Rattle.rpl_plans.specs.declared.choice.PlannedTerm.{PlannedTerm}
use Rattle.rpl_plans.specs.declared.step.PlannedLiteral.{PlannedLiteral}
use Rattle.rpl_plans.specs.declared.test.PlannedTest.{PlannedTest}
use Rattle.rpl_layout.specs.Guards.{Writing, Conditions, joined_from, all_of, behind_denied, term_conditions, term_condition, terms_condition, unwanted, wanted_among, literal_among, literals_joined, literal_alone, guard_condition}

-- what may be negated may be joined by `and`, and that by `or`
and_shaped : (c : Condition) → is_shaped ByNot c ≡ true → is_shaped ByAnd c ≡ true
unfolding is_shaped
and_shaped (Asks t) h = refl
and_shaped (Grouped c) h = h
and_shaped (Negated c) h = h
and_shaped (Both c d) h = absurd cc
and_shaped (Either c d) h = absurd cc

or_shaped : (c : Condition) → is_shaped ByAnd c ≡ true → is_shaped ByOr c ≡ true
unfolding is_shaped
or_shaped (Asks t) h = refl
or_shaped (Grouped c) h = h
or_shaped (Negated c) h = h
or_shaped (Both c d) h = h
or_shaped (Either c d) h = absurd cc

both_shaped : (c : Condition) (ds : List Condition) → is_shaped ByAnd c ≡ true → list_all (is_shaped ByNot) ds ≡ true → is_shaped ByAnd (joined_from Both c ds) ≡ true
unfolding is_shaped joined_from
both_shaped c [] h k = h
both_shaped c (d ∷ ds) h k =
    let parts = and_parts (is_shaped ByNot d) (list_all (is_shaped ByNot) ds) k in
    both_shaped (Both c d) ds (and_from (is_shaped ByAnd c) (is_shaped ByNot d) h parts.0) parts.1

either_shaped : (c : Condition) (ds : List Condition) → is_shaped ByOr c ≡ true → list_all (is_shaped ByAnd) ds ≡ true → is_shaped ByOr (joined_from Either c ds) ≡ true
unfolding is_shaped joined_from
either_shaped c [] h k = h
either_shaped c (d ∷ ds) h k =
    let parts = and_parts (is_shaped ByAnd d) (list_all (is_shaped ByAnd) ds) k in
    either_shaped (Either c d) ds (and_from (is_shaped ByOr c) (is_shaped ByAnd d) h parts.0) parts.1

-- conditions that may be negated
MayNegate : Conditions → Type 0
MayNegate cs = (is_shaped ByNot cs.first ≡ true) × (list_all (is_shaped ByNot) cs.others ≡ true)

joined_shaped : (cs : Conditions) → MayNegate cs → is_shaped ByAnd (all_of cs) ≡ true
unfolding MayNegate
joined_shaped cs h = both_shaped cs.first cs.others (and_shaped cs.first h.0) h.1

module _ (written : Writing) where
  nots_shaped : (ds : List PlannedTest) → list_all (is_shaped ByNot) (map (λ t. Negated (Asks (written t))) ds) ≡ true
  unfolding is_shaped
  nots_shaped [] = refl
  nots_shaped (d ∷ ds) = nots_shaped ds

  denied_shaped : (ds : List PlannedTest) (p : PlannedTest) → MayNegate (behind_denied written ds p)
  unfolding is_shaped MayNegate
  denied_shaped [] p = (refl, refl)
  denied_shaped (d ∷ ds) p = (
    refl,
    list_all-append (is_shaped ByNot) (map (λ t. Negated (Asks (written t))) ds) (Asks (written p) ∷ [])
        ∙ ap (λ b. b && true) (nots_shaped ds),
  )

  term_shaped : (t : PlannedTerm) → is_shaped ByAnd (term_condition written t) ≡ true
  term_shaped t = joined_shaped (term_conditions written t) (denied_shaped t.denied t.permitted)

  each_shaped : (ts : List PlannedTerm) → list_all (is_shaped ByAnd) (map (λ u. term_condition written u) ts) ≡ true
  each_shaped [] = refl
  each_shaped (t ∷ ts) = and_from (is_shaped ByAnd (term_condition written t)) (list_all (is_shaped ByAnd) (map (λ u. term_condition written u) ts)) (term_shaped t) (each_shaped ts)

  terms_shaped : (t : PlannedTerm) (ts : List PlannedTerm) → is_shaped ByOr (terms_condition written t ts) ≡ true
  terms_shaped t ts = either_shaped (term_condition written t) (map (λ u. term_condition written u) ts) (or_shaped (term_condition written t) (term_shaped t)) (each_shaped ts)

  unwanted_shaped : (b : Binding) (ds : List PlannedTest) (p : PlannedTest) (ts : List PlannedTerm) → is_shaped b (unwanted written ds p ts) ≡ true
  unfolding is_shaped
  unwanted_shaped b [] p [] = refl
  unwanted_shaped b [] p (u ∷ us) = terms_shaped (record { denied = []; permitted = p }) (u ∷ us)
  unwanted_shaped b (d ∷ ds) p ts = terms_shaped (record { denied = d ∷ ds; permitted = p }) ts

  wanted_shaped : (t : PlannedTerm) (ts : List PlannedTerm) → MayNegate (wanted_among written t ts)
  unfolding is_shaped MayNegate
  wanted_shaped t [] = denied_shaped t.denied t.permitted
  wanted_shaped t (u ∷ us) = (terms_shaped t (u ∷ us), refl)

  among_shaped : (wanted : Bool) (t : PlannedTerm) (ts : List PlannedTerm) → MayNegate (literal_among written (record { terms = record { first = t; others = ts }; wanted = wanted }))
  unfolding MayNegate
  among_shaped true t ts = wanted_shaped t ts
  among_shaped false t ts = (unwanted_shaped ByNot t.denied t.permitted ts, refl)

  literals_shaped : (l : PlannedLiteral) (ms : List PlannedLiteral) → MayNegate (literals_joined written l ms)
  unfolding MayNegate
  literals_shaped l [] = among_shaped l.wanted l.terms.first l.terms.others
  literals_shaped l (m ∷ ms) =
      let here : MayNegate (literal_among written l) = among_shaped l.wanted l.terms.first l.terms.others in
      let more : MayNegate (literals_joined written m ms) = literals_shaped m ms in (
        here.0,
        list_all-append (is_shaped ByNot) (literal_among written l).others ((literals_joined written m ms).first ∷ (literals_joined written m ms).others)
            ∙ and_from (list_all (is_shaped ByNot) (literal_among written l).others) (list_all (is_shaped ByNot) ((literals_joined written m ms).first ∷ (literals_joined written m ms).others)) here.1
            (and_from (is_shaped ByNot (literals_joined written m ms).first) (list_all (is_shaped ByNot) (literals_joined written m ms).others) more.0 more.1),
      )

  alone_shaped : (wanted : Bool) (t : PlannedTerm) (ts : List PlannedTerm) → is_shaped ByOr (literal_alone written (record { terms = record { first = t; others = ts }; wanted = wanted })) ≡ true
  alone_shaped true t ts = terms_shaped t ts
  alone_shaped false t ts = unwanted_shaped ByOr t.denied t.permitted ts

  pub guard_shaped : (l : PlannedLiteral) (ls : List PlannedLiteral) → is_shaped ByOr (guard_condition written l ls) ≡ true
  guard_shaped l [] = alone_shaped l.wanted l.terms.first l.terms.others
  guard_shaped l (m ∷ ms) = or_shaped (all_of (literals_joined written l (m ∷ ms))) (joined_shaped (literals_joined written l (m ∷ ms)) (literals_shaped l (m ∷ ms)))
