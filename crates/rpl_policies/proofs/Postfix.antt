-- The terms of conditions that are joined, from the front.
use Rattle.std.proofs.Common.{◌≡◌, refl, sym, ap, ◌∙◌, Bool, true, false, List, [], ◌∷◌, ◌++◌, append_assoc, append-nil, map, length, ◌==◌}
use Rattle.std.specs.List.{flat_map}
use Rattle.rpl_words.specs.Conditions.{Condition, Asks, Grouped, Negated, Both, Either, terms_of}
use Rattle.rpl_words.specs.declared.condition.Term.{Term}
use Rattle.rpl_words.specs.declared.condition.Term.TheVariants.{Test, And, Or, Not, Group}
use Rattle.rpl_plans.specs.declared.choice.PlannedTerm.{PlannedTerm}
use Rattle.rpl_plans.specs.declared.step.PlannedLiteral.{PlannedLiteral}
use Rattle.rpl_plans.specs.declared.test.PlannedTest.{PlannedTest}
use Rattle.rpl_layout.specs.Guards.{Writing, Conditions, before_others, joined_from, all_of, term_condition, term_conditions, terms_condition, unwanted, wanted_among, behind_denied, literal_among, literals_joined, guard_condition}
use Rattle.rpl_policies.proofs.Rows.{put_then, put_two}
use Rattle.rpl_policies.specs.Postfix.{each_before, and_where, joined_terms, is_lone}

-- ---- lists of conditions

pub each_append : (join : Term) (cs ds : List Condition) → each_before join (cs ++ ds) ≡ each_before join cs ++ each_before join ds
unfolding each_before
each_append join [] ds = refl
each_append join (c ∷ cs) ds =
    ap (λ (ts : List Term). terms_of c ++ (join ∷ ts)) (each_append join cs ds)
    ∙ sym (append_assoc (terms_of c) (join ∷ each_before join cs) (each_before join ds))

-- conditions that are joined, by a constructor whose terms end with one term
module _ (make : Condition → Condition → Condition) (join : Term) (made : (c d : Condition) → terms_of (make c d) ≡ terms_of c ++ (terms_of d ++ (join ∷ []))) where
  joined_is : (c : Condition) (ds : List Condition) → terms_of (joined_from make c ds) ≡ terms_of c ++ each_before join ds
  unfolding joined_from each_before
  joined_is c [] = sym (append-nil (terms_of c))
  joined_is c (d ∷ ds) =
      joined_is (make c d) ds ∙ ap (λ (ts : List Term). ts ++ each_before join ds) (made c d)
      ∙ append_assoc (terms_of c) (terms_of d ++ (join ∷ [])) (each_before join ds)
      ∙ ap (λ (ts : List Term). terms_of c ++ ts) (append_assoc (terms_of d) (join ∷ []) (each_before join ds))

either_made : (c d : Condition) → terms_of (Either c d) ≡ terms_of c ++ (terms_of d ++ (Or ∷ []))
unfolding terms_of
either_made c d = refl

both_made : (c d : Condition) → terms_of (Both c d) ≡ terms_of c ++ (terms_of d ++ (And ∷ []))
unfolding terms_of
both_made c d = refl

pub some_terms : (c : Condition) (ds : List Condition) → terms_of (joined_from Either c ds) ≡ terms_of c ++ each_before Or ds
some_terms = joined_is Either Or either_made

pub all_terms : (cs : Conditions) → terms_of (all_of cs) ≡ joined_terms false cs
unfolding joined_terms and_where
all_terms cs = joined_is Both And both_made cs.first cs.others

-- one condition
pub single_terms : (joined : Bool) (c : Condition) → joined_terms joined (record { first = c; others = [] }) ≡ terms_of c ++ and_where joined
unfolding joined_terms each_before
single_terms joined c = ap (λ (ts : List Term). terms_of c ++ ts) (append-nil (and_where joined))

-- ---- terms

-- a permit set behind `not` of deny sets
pub denied_terms : (written : Writing) (joined : Bool) (d : PlannedTest) (ds : List PlannedTest) (permitted : PlannedTest)
    → joined_terms joined (behind_denied written (d ∷ ds) permitted)
    ≡ terms_of (Negated (Asks (written d))) ++ (and_where joined ++ (each_before And (map (λ t. Negated (Asks (written t))) ds) ++ (Test (written permitted) ∷ And ∷ [])))
unfolding joined_terms each_before terms_of
denied_terms written joined d ds permitted =
    ap (λ (ts : List Term). terms_of (Negated (Asks (written d))) ++ (and_where joined ++ ts)) (each_append And (map (λ t. Negated (Asks (written t))) ds) (Asks (written permitted) ∷ []))

-- so it is put to a row, piece by piece
pub denied_put : (old one two three four new : List Term) (written : Writing) (joined : Bool) (d : PlannedTest) (ds : List PlannedTest) (permitted : PlannedTest)
    → one ≡ old ++ terms_of (Negated (Asks (written d))) → two ≡ one ++ and_where joined → three ≡ two ++ each_before And (map (λ t. Negated (Asks (written t))) ds)
    → four ≡ three ++ Test (written permitted) ∷ [] → new ≡ four ++ And ∷ [] → new ≡ old ++ joined_terms joined (behind_denied written (d ∷ ds) permitted)
denied_put old one two three four new written joined d ds permitted first second third fourth fifth =
    let middle : List Term = each_before And (map (λ t. Negated (Asks (written t))) ds) in
    let last : List Term = Test (written permitted) ∷ And ∷ [] in
    put_then old one new (terms_of (Negated (Asks (written d)))) (and_where joined ++ (middle ++ last)) first
    (put_then one two new (and_where joined) (middle ++ last) second
    (put_then two three new middle last third (put_then three four new (Test (written permitted) ∷ []) (And ∷ []) fourth fifth)))
    ∙ ap (λ (ts : List Term). old ++ ts) (sym (denied_terms written joined d ds permitted))

-- a permit set alone
pub lone_terms : (written : Writing) (joined : Bool) (permitted : PlannedTest) → joined_terms joined (behind_denied written [] permitted) ≡ (Test (written permitted) ∷ []) ++ and_where joined
unfolding terms_of
lone_terms written joined permitted = single_terms joined (Asks (written permitted))

-- a term alone is its conditions with nothing before
pub term_terms : (written : Writing) (t : PlannedTerm) → terms_of (term_condition written t) ≡ joined_terms false (term_conditions written t)
term_terms written t = all_terms (term_conditions written t)

-- one of the terms
pub terms_terms : (written : Writing) (t : PlannedTerm) (ts : List PlannedTerm)
    → terms_of (terms_condition written t ts) ≡ terms_of (term_condition written t) ++ each_before Or (map (λ u. term_condition written u) ts)
terms_terms written t ts = some_terms (term_condition written t) (map (λ u. term_condition written u) ts)

-- ---- literals

-- a literal that isn't wanted, by whether it is a test alone
unwanted_is : (written : Writing) (denied : List PlannedTest) (permitted : PlannedTest) (ts : List PlannedTerm)
    → unwanted written denied permitted ts
    ≡ elim (is_lone denied ts) [ true ↦ Negated (Asks (written permitted)) | false ↦ Negated (Grouped (terms_condition written (record { denied = denied; permitted = permitted }) ts)) ]
unwanted_is written [] permitted [] = refl
unwanted_is written [] permitted (t ∷ ts) = refl
unwanted_is written (d ∷ ds) permitted [] = refl
unwanted_is written (d ∷ ds) permitted (t ∷ ts) = refl

-- `not` before parentheses
pub grouped_terms : (written : Writing) (t : PlannedTerm) (ts : List PlannedTerm) → is_lone t.denied ts ≡ false
    → terms_of (unwanted written t.denied t.permitted ts) ≡ terms_of (terms_condition written t ts) ++ (Group ∷ Not ∷ [])
unfolding terms_of
grouped_terms written t ts e =
    ap terms_of (unwanted_is written t.denied t.permitted ts)
    ∙ ap (λ (b : Bool). terms_of (elim b [ true ↦ Negated (Asks (written t.permitted)) | false ↦ Negated (Grouped (terms_condition written t ts)) ])) e
    ∙ append_assoc (terms_of (terms_condition written t ts)) (Group ∷ []) (Not ∷ [])

-- a wanted literal of several terms
pub wanted_terms : (written : Writing) (joined : Bool) (t : PlannedTerm) (ts : List PlannedTerm) → (length ts == 0) ≡ false
    → joined_terms joined (wanted_among written t ts) ≡ terms_of (terms_condition written t ts) ++ (Group ∷ and_where joined)
unfolding terms_of
wanted_terms written joined t [] e = absurd cc
wanted_terms written joined t (u ∷ us) e =
    single_terms joined (Grouped (terms_condition written t (u ∷ us)))
    ∙ append_assoc (terms_of (terms_condition written t (u ∷ us))) (Group ∷ []) (and_where joined)

-- a literal that isn't wanted, among others
pub among_terms : (written : Writing) (joined : Bool) (l : PlannedLiteral) → l.wanted ≡ false
    → joined_terms joined (literal_among written l) ≡ terms_of (unwanted written l.terms.first.denied l.terms.first.permitted l.terms.others) ++ and_where joined
among_terms written joined l e =
    let no : Conditions = record { first = unwanted written l.terms.first.denied l.terms.first.permitted l.terms.others; others = [] } in
    ap (λ (b : Bool). joined_terms joined (elim b [ true ↦ wanted_among written l.terms.first l.terms.others | false ↦ no ])) e
    ∙ single_terms joined (unwanted written l.terms.first.denied l.terms.first.permitted l.terms.others)

-- conditions before others, which `and` joins to them
before_terms : (joined : Bool) (cs ds : Conditions) → joined_terms joined (before_others cs ds) ≡ joined_terms joined cs ++ joined_terms true ds
unfolding joined_terms and_where terms_of each_before
before_terms joined cs ds =
    ap (λ (ts : List Term). terms_of cs.first ++ (and_where joined ++ ts)) (each_append And cs.others (ds.first ∷ ds.others))
    ∙ ap (λ (ts : List Term). terms_of cs.first ++ ts) (sym (append_assoc (and_where joined) (each_before And cs.others) (each_before And (ds.first ∷ ds.others))))
    ∙ sym (append_assoc (terms_of cs.first) (and_where joined ++ each_before And cs.others) (each_before And (ds.first ∷ ds.others)))

-- the literals of a guard, each behind those before it
literals_terms : (written : Writing) (joined : Bool) (l : PlannedLiteral) (ls : List PlannedLiteral)
    → joined_terms joined (literals_joined written l ls) ≡ joined_terms joined (literal_among written l) ++ flat_map (λ m. joined_terms true (literal_among written m)) ls
literals_terms written joined l [] = sym (append-nil (joined_terms joined (literal_among written l)))
literals_terms written joined l (m ∷ ms) =
    before_terms joined (literal_among written l) (literals_joined written m ms)
    ∙ ap (λ (ts : List Term). joined_terms joined (literal_among written l) ++ ts) (literals_terms written true m ms)

-- the condition of several literals
guard_terms : (written : Writing) (l : PlannedLiteral) (ls : List PlannedLiteral) → (length ls == 0) ≡ false
    → terms_of (guard_condition written l ls) ≡ joined_terms false (literal_among written l) ++ flat_map (λ k. joined_terms true (literal_among written k)) ls
guard_terms written l [] e = absurd cc
guard_terms written l (m ∷ ms) e = all_terms (literals_joined written l (m ∷ ms)) ∙ literals_terms written false l (m ∷ ms)

-- so it is put to an empty row, the first literal and then the others
pub guard_put : (written : Writing) (l : PlannedLiteral) (ls : List PlannedLiteral) (empty one new : List Term) → (length ls == 0) ≡ false → empty ≡ []
    → one ≡ empty ++ joined_terms false (literal_among written l) → new ≡ one ++ flat_map (λ k. joined_terms true (literal_among written k)) ls
    → new ≡ terms_of (guard_condition written l ls)
guard_put written l ls empty one new several none first second =
    put_two empty one new (joined_terms false (literal_among written l)) (flat_map (λ k. joined_terms true (literal_among written k)) ls) none first second
    ∙ sym (guard_terms written l ls several)
