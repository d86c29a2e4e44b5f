-- What holds of the tests of a guard, and of conditions that are joined or grouped, holds of the guard's condition.
use Rattle.std.proofs.Common.{Bool, true, false, List, [], ◌∷◌, ◌++◌, map}
use Rattle.std.specs.List.{AllByRecursion}
use Rattle.rpl_words.specs.Conditions.{Condition, Asks, Grouped, Negated, Both, Either}
use Rattle.rpl_plans.specs.declared.choice.PlannedTerm.{PlannedTerm}
use Rattle.rpl_plans.specs.declared.step.PlannedLiteral.{PlannedLiteral}
use Rattle.rpl_plans.specs.declared.test.PlannedTest.{PlannedTest}
use Rattle.rpl_layout.specs.Guards.{Writing, Conditions, joined_from, behind_denied, term_conditions, term_condition, terms_condition, unwanted, wanted_among, literal_among, literals_joined, literal_alone, guard_condition}
use Rattle.rpl_layout.specs.Tests.{EachOfTerm, EachOfTerms}

all_before : {A : Type 0} (P : A → Type 0) (xs ys : List A) → AllByRecursion P xs → AllByRecursion P ys → AllByRecursion P (xs ++ ys)
all_before P [] ys h k = k
all_before P (x ∷ xs) ys h k = (h.0, all_before P xs ys h.1 k)

-- a fact of conditions without parentheses, and one of conditions in which some stand in parentheses
pub record Keeps (Flat Deep : Condition → Type 0) : Type 0 where
  pub negated : (c : Condition) → Flat c → Flat (Negated c)
  pub both : (c d : Condition) → Flat c → Flat d → Flat (Both c d)
  pub either : (c d : Condition) → Flat c → Flat d → Flat (Either c d)
  pub grouped : (c : Condition) → Flat c → Deep (Grouped c)
  pub flat : (c : Condition) → Flat c → Deep c
  pub negated_deep : (c : Condition) → Deep c → Deep (Negated c)
  pub both_deep : (c d : Condition) → Deep c → Deep d → Deep (Both c d)

module _ (Flat Deep : Condition → Type 0) (keeps : Keeps Flat Deep) (written : Writing) where
  -- the test is written by a condition of which the fact holds
  abbrev Leaf : PlannedTest → Type 0
  Leaf t = Flat (Asks (written t))

  -- some conditions have a fact
  abbrev Have : (Condition → Type 0) → Conditions → Type 0
  Have Q cs = Q cs.first × AllByRecursion Q cs.others

  both_flat : (c : Condition) (ds : List Condition) → Flat c → AllByRecursion Flat ds → Flat (joined_from Both c ds)
  unfolding joined_from
  both_flat c [] h k = h
  both_flat c (d ∷ ds) h k = both_flat (Both c d) ds (keeps.both c d h k.0) k.1

  either_flat : (c : Condition) (ds : List Condition) → Flat c → AllByRecursion Flat ds → Flat (joined_from Either c ds)
  unfolding joined_from
  either_flat c [] h k = h
  either_flat c (d ∷ ds) h k = either_flat (Either c d) ds (keeps.either c d h k.0) k.1

  both_deep : (c : Condition) (ds : List Condition) → Deep c → AllByRecursion Deep ds → Deep (joined_from Both c ds)
  unfolding joined_from
  both_deep c [] h k = h
  both_deep c (d ∷ ds) h k = both_deep (Both c d) ds (keeps.both_deep c d h k.0) k.1

  nots_flat : (ds : List PlannedTest) → AllByRecursion Leaf ds → AllByRecursion Flat (map (λ t. Negated (Asks (written t))) ds)
  nots_flat [] h = tt
  nots_flat (d ∷ ds) h = (keeps.negated (Asks (written d)) h.0, nots_flat ds h.1)

  denied_flat : (ds : List PlannedTest) (p : PlannedTest) → AllByRecursion Leaf ds → Leaf p → Have Flat (behind_denied written ds p)
  denied_flat [] p h k = (k, tt)
  denied_flat (d ∷ ds) p h k =
      (keeps.negated (Asks (written d)) h.0, all_before Flat (map (λ t. Negated (Asks (written t))) ds) (Asks (written p) ∷ []) (nots_flat ds h.1) (k, tt))

  term_flat : (t : PlannedTerm) → EachOfTerm Leaf t → Flat (term_condition written t)
  term_flat t h =
      let parts : Have Flat (term_conditions written t) = denied_flat t.denied t.permitted h.0 h.1 in
      both_flat (term_conditions written t).first (term_conditions written t).others parts.0 parts.1

  each_flat : (ts : List PlannedTerm) → AllByRecursion (EachOfTerm Leaf) ts → AllByRecursion Flat (map (λ u. term_condition written u) ts)
  each_flat [] h = tt
  each_flat (t ∷ ts) h = (term_flat t h.0, each_flat ts h.1)

  terms_flat : (t : PlannedTerm) (ts : List PlannedTerm) → EachOfTerm Leaf t → AllByRecursion (EachOfTerm Leaf) ts → Flat (terms_condition written t ts)
  terms_flat t ts h k = either_flat (term_condition written t) (map (λ u. term_condition written u) ts) (term_flat t h) (each_flat ts k)

  unwanted_deep : (ds : List PlannedTest) (p : PlannedTest) (ts : List PlannedTerm) → AllByRecursion Leaf ds → Leaf p → AllByRecursion (EachOfTerm Leaf) ts → Deep (unwanted written ds p ts)
  unwanted_deep [] p [] h k more = keeps.flat (Negated (Asks (written p))) (keeps.negated (Asks (written p)) k)
  unwanted_deep [] p (u ∷ us) h k more =
      let t : PlannedTerm = record { denied = []; permitted = p } in
      keeps.negated_deep (Grouped (terms_condition written t (u ∷ us))) (keeps.grouped (terms_condition written t (u ∷ us)) (terms_flat t (u ∷ us) (h, k) more))
  unwanted_deep (d ∷ ds) p ts h k more =
      let t : PlannedTerm = record { denied = d ∷ ds; permitted = p } in
      keeps.negated_deep (Grouped (terms_condition written t ts)) (keeps.grouped (terms_condition written t ts) (terms_flat t ts (h, k) more))

  deep_of : (cs : List Condition) → AllByRecursion Flat cs → AllByRecursion Deep cs
  deep_of [] h = tt
  deep_of (c ∷ cs) h = (keeps.flat c h.0, deep_of cs h.1)

  wanted_deep : (t : PlannedTerm) (ts : List PlannedTerm) → EachOfTerm Leaf t → AllByRecursion (EachOfTerm Leaf) ts → Have Deep (wanted_among written t ts)
  wanted_deep t [] h k =
      let parts : Have Flat (term_conditions written t) = denied_flat t.denied t.permitted h.0 h.1 in
      (keeps.flat (term_conditions written t).first parts.0, deep_of (term_conditions written t).others parts.1)
  wanted_deep t (u ∷ us) h k = (keeps.grouped (terms_condition written t (u ∷ us)) (terms_flat t (u ∷ us) h k), tt)

  among_deep : (wanted : Bool) (t : PlannedTerm) (ts : List PlannedTerm) → EachOfTerm Leaf t → AllByRecursion (EachOfTerm Leaf) ts → Have Deep (literal_among written (record { terms = record { first = t; others = ts }; wanted = wanted }))
  among_deep true t ts h k = wanted_deep t ts h k
  among_deep false t ts h k = (unwanted_deep t.denied t.permitted ts h.0 h.1 k, tt)

  literals_deep : (l : PlannedLiteral) (ms : List PlannedLiteral) → EachOfTerms Leaf l.terms → AllByRecursion (λ m. EachOfTerms Leaf m.terms) ms → Have Deep (literals_joined written l ms)
  literals_deep l [] h k = among_deep l.wanted l.terms.first l.terms.others h.0 h.1
  literals_deep l (m ∷ ms) h k =
      let here : Have Deep (literal_among written l) = among_deep l.wanted l.terms.first l.terms.others h.0 h.1 in
      let more : Have Deep (literals_joined written m ms) = literals_deep m ms k.0 k.1 in
      (here.0, all_before Deep (literal_among written l).others ((literals_joined written m ms).first ∷ (literals_joined written m ms).others) here.1 more)

  alone_deep : (wanted : Bool) (t : PlannedTerm) (ts : List PlannedTerm) → EachOfTerm Leaf t → AllByRecursion (EachOfTerm Leaf) ts → Deep (literal_alone written (record { terms = record { first = t; others = ts }; wanted = wanted }))
  alone_deep true t ts h k = keeps.flat (terms_condition written t ts) (terms_flat t ts h k)
  alone_deep false t ts h k = unwanted_deep t.denied t.permitted ts h.0 h.1 k

  pub guard_deep : (l : PlannedLiteral) (ls : List PlannedLiteral) → EachOfTerms Leaf l.terms → AllByRecursion (λ m. EachOfTerms Leaf m.terms) ls → Deep (guard_condition written l ls)
  guard_deep l [] h k = alone_deep l.wanted l.terms.first l.terms.others h.0 h.1
  guard_deep l (m ∷ ms) h k =
      let parts : Have Deep (literals_joined written l (m ∷ ms)) = literals_deep l (m ∷ ms) h k in
      both_deep (literals_joined written l (m ∷ ms)).first (literals_joined written l (m ∷ ms)).others parts.0 parts.1
