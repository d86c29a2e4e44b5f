-- The terms of conditions agree with what they spell.
use Rattle.std.proofs.Common.{◌≡◌, refl, sym, ap, ◌∙◌, subst, ℕ, suc, ◌+◌, Bool, true, false, List, [], ◌∷◌, ◌++◌, append_assoc, Option, Some, None, arith}
use Rattle.std.specs.Prelude.{codes, option_map}
use Rattle.std.proofs.lemmas.Bool.{and_parts}
use Rattle.std.proofs.lemmas.List.{append-nil}
use Rattle.rpl_words.specs.Tokens.{Token, plain}
use Rattle.rpl_words.specs.Conditions.{Condition, Asks as AsksFor, Grouped, Negated, Both, Either, ByOr, ByAnd, ByNot, is_shaped, SpellCondition, terms_of, SpellTerms}
use Rattle.rpl_forms.specs.Terms.{nothing_waits, repeated_not, completed, divided, taken, terms_from, condition_in}
use Rattle.rpl_words.specs.declared.condition.RplTest.{RplTest}
use Rattle.rpl_words.specs.declared.condition.Term.{Term}
use Rattle.rpl_words.specs.declared.condition.Term.TheVariants.{Test, Group, Not, And, Or}
use Rattle.rpl_forms.specs.declared.marks.Level.{Level}
use Rattle.rpl_forms.specs.declared.marks.Mark.{Mark}
use Rattle.rpl_forms.specs.declared.marks.Mark.TheVariants.{Asks, Opens, Closes, Negates, Joins, Divides}
use Rattle.rpl_forms.specs.declared.marks.Standing.TheVariants.{Wants, Has}
use Rattle.rpl_forms.proofs.Agree.Marks.{SpellMarks, marks_only}

-- ---- the marks and the terms of a condition, before others

abbrev pub marks_onto : Condition → List Mark → List Mark
marks_onto (AsksFor t) r = Asks t ∷ r
marks_onto (Grouped c) r = Opens ∷ marks_onto c (Closes ∷ r)
marks_onto (Negated c) r = Negates ∷ marks_onto c r
marks_onto (Both c d) r = marks_onto c (Joins ∷ marks_onto d r)
marks_onto (Either c d) r = marks_onto c (Divides ∷ marks_onto d r)

abbrev pub terms_onto : Condition → List Term → List Term
terms_onto (AsksFor t) r = Test t ∷ r
terms_onto (Grouped c) r = terms_onto c (Group ∷ r)
terms_onto (Negated c) r = terms_onto c (Not ∷ r)
terms_onto (Both c d) r = terms_onto c (terms_onto d (And ∷ r))
terms_onto (Either c d) r = terms_onto c (terms_onto d (Or ∷ r))

terms_before : (c : Condition) (r : List Term) → terms_of c ++ r ≡ terms_onto c r
unfolding terms_of
terms_before (AsksFor t) r = refl
terms_before (Grouped c) r = append_assoc (terms_of c) (Group ∷ []) r ∙ terms_before c (Group ∷ r)
terms_before (Negated c) r = append_assoc (terms_of c) (Not ∷ []) r ∙ terms_before c (Not ∷ r)
terms_before (Both c d) r =
    append_assoc (terms_of c) (terms_of d ++ (And ∷ [])) r ∙ ap (λ (x : List Term). terms_of c ++ x) (append_assoc (terms_of d) (And ∷ []) r ∙ terms_before d (And ∷ r)) ∙ terms_before c (terms_onto d (And ∷ r))
terms_before (Either c d) r =
    append_assoc (terms_of c) (terms_of d ++ (Or ∷ [])) r ∙ ap (λ (x : List Term). terms_of c ++ x) (append_assoc (terms_of d) (Or ∷ []) r ∙ terms_before d (Or ∷ r)) ∙ terms_before c (terms_onto d (Or ∷ r))

pub terms_are : (c : Condition) → terms_of c ≡ terms_onto c []
terms_are c = sym (append-nil (terms_of c)) ∙ terms_before c []

-- ---- words that spell a condition spell its marks

spelled_marks : (c : Condition) (ms : List Mark) (ts rest : List Token) → SpellCondition ts c → SpellMarks ms rest → SpellMarks (marks_onto c ms) (ts ++ rest)
unfolding SpellCondition
spelled_marks (AsksFor t) ms ts rest h more = (ts, rest, refl, h, more)
spelled_marks (Grouped c) ms ts rest (inner, e, h) more =
    let close = plain (codes ")") in
    let text = sym (append_assoc inner (close ∷ []) rest) in
    ((inner ++ (close ∷ [])) ++ rest, ap (λ (us : List Token). us ++ rest) e, subst (SpellMarks (marks_onto c (Closes ∷ ms))) text (spelled_marks c (Closes ∷ ms) inner (close ∷ rest) h (rest, refl, more)))
spelled_marks (Negated c) ms ts rest (us, e, h) more = (us ++ rest, ap (λ (vs : List Token). vs ++ rest) e, spelled_marks c ms us rest h more)
spelled_marks (Both c d) ms ts rest (left, right, e, h, k) more =
    let text : left ++ plain (codes "and") ∷ (right ++ rest) ≡ ts ++ rest = sym (ap (λ (us : List Token). us ++ rest) e ∙ append_assoc left (plain (codes "and") ∷ right) rest) in
    subst (SpellMarks (marks_onto c (Joins ∷ marks_onto d ms))) text (spelled_marks c (Joins ∷ marks_onto d ms) left (plain (codes "and") ∷ (right ++ rest)) h (right ++ rest, refl, spelled_marks d ms right rest k more))
spelled_marks (Either c d) ms ts rest (left, right, e, h, k) more =
    let text : left ++ plain (codes "or") ∷ (right ++ rest) ≡ ts ++ rest = sym (ap (λ (us : List Token). us ++ rest) e ∙ append_assoc left (plain (codes "or") ∷ right) rest) in
    subst (SpellMarks (marks_onto c (Divides ∷ marks_onto d ms))) text (spelled_marks c (Divides ∷ marks_onto d ms) left (plain (codes "or") ∷ (right ++ rest)) h (right ++ rest, refl, spelled_marks d ms right rest k more))

-- words that spell a condition, and others that spell these marks
abbrev pub Spelled : Condition → List Mark → List Token → Type 0
Spelled c ms ts = (front : List Token) × (rest : List Token) × (ts ≡ front ++ rest) × SpellCondition front c × SpellMarks ms rest

pub marks_spelled : (c : Condition) (ms : List Mark) (ts : List Token) → SpellMarks (marks_onto c ms) ts → Spelled c ms ts
unfolding SpellCondition
marks_spelled (AsksFor t) ms ts h = h
marks_spelled (Grouped c) ms ts (us, e, h) =
    let (inner, r, k, spelled, (rest, l, more)) = marks_spelled c (Closes ∷ ms) us h in
    let close = plain (codes ")") in
    let whole : us ≡ (inner ++ (close ∷ [])) ++ rest = k ∙ ap (λ (vs : List Token). inner ++ vs) l ∙ sym (append_assoc inner (close ∷ []) rest) in
    (plain (codes "(") ∷ (inner ++ (close ∷ [])), rest, e ∙ ap (λ (vs : List Token). plain (codes "(") ∷ vs) whole, (inner, refl, spelled), more)
marks_spelled (Negated c) ms ts (us, e, h) =
    let (front, rest, k, spelled, more) = marks_spelled c ms us h in
    (plain (codes "not") ∷ front, rest, e ∙ ap (λ (vs : List Token). plain (codes "not") ∷ vs) k, (front, refl, spelled), more)
marks_spelled (Both c d) ms ts h =
    let (left, r, e, spelled, (us, k, h2)) = marks_spelled c (Joins ∷ marks_onto d ms) ts h in
    let (right, rest, l, other, more) = marks_spelled d ms us h2 in
    let sign = plain (codes "and") in
    let whole : ts ≡ (left ++ sign ∷ right) ++ rest = e ∙ ap (λ (vs : List Token). left ++ vs) (k ∙ ap (λ (vs : List Token). sign ∷ vs) l) ∙ sym (append_assoc left (sign ∷ right) rest) in
    (left ++ sign ∷ right, rest, whole, (left, right, refl, spelled, other), more)
marks_spelled (Either c d) ms ts h =
    let (left, r, e, spelled, (us, k, h2)) = marks_spelled c (Divides ∷ marks_onto d ms) ts h in
    let (right, rest, l, other, more) = marks_spelled d ms us h2 in
    let sign = plain (codes "or") in
    let whole : ts ≡ (left ++ sign ∷ right) ++ rest = e ∙ ap (λ (vs : List Token). left ++ vs) (k ∙ ap (λ (vs : List Token). sign ∷ vs) l) ∙ sym (append_assoc left (sign ∷ right) rest) in
    (left ++ sign ∷ right, rest, whole, (left, right, refl, spelled, other), more)

-- ---- the marks of a condition are read as its terms

map_twice : {A B C : Type 0} (f : B → C) (g : A → B) (o : Option A) → option_map f (option_map g o) ≡ option_map (λ x. f (g x)) o
map_twice f g (Some x) = refl
map_twice f g None = refl

map_same : {A B : Type 0} (f g : A → B) (o : Option A) → ((x : A) → f x ≡ g x) → option_map f o ≡ option_map g o
map_same f g (Some x) h = ap (λ y. Some y) (h x)
map_same f g None h = refl

-- the last term of an `or` waits
abbrev ends_either : Condition → Bool
ends_either (Either c d) = true
ends_either _ = false

-- the terms without it
abbrev pre_onto : Condition → List Term → List Term
pre_onto (Either c d) r = terms_onto c (terms_onto d r)
pre_onto (AsksFor t) r = terms_onto (AsksFor t) r
pre_onto (Grouped c) r = terms_onto (Grouped c) r
pre_onto (Negated c) r = terms_onto (Negated c) r
pre_onto (Both c d) r = terms_onto (Both c d) r

with_last : (c : Condition) (r : List Term) → pre_onto c (divided (ends_either c) ++ r) ≡ terms_onto c r
with_last (AsksFor t) r = refl
with_last (Grouped c) r = refl
with_last (Negated c) r = refl
with_last (Both c d) r = refl
with_last (Either c d) r = refl

at_end : (c : Condition) → pre_onto c (divided (ends_either c)) ≡ terms_onto c []
at_end (AsksFor t) = refl
at_end (Grouped c) = refl
at_end (Negated c) = refl
at_end (Both c d) = refl
at_end (Either c d) = refl

-- the terms of an operand, and what it completes
abbrev ReadsNot : Condition → Type 0
ReadsNot c = is_shaped ByNot c ≡ true → (level : Level) (around : List Level) (ms : List Mark) → terms_from (Wants level) around (marks_onto c ms) ≡ option_map (λ ts. terms_onto c (completed level ++ ts)) (terms_from (Has level.either) around ms)

-- the terms of an operand of `or`
abbrev ReadsAnd : Condition → Type 0
ReadsAnd c = is_shaped ByAnd c ≡ true → (either : Bool) (around : List Level) (ms : List Mark) → terms_from (Wants (record { either = either; both = false; nots = 0 })) around (marks_onto c ms) ≡ option_map (terms_onto c) (terms_from (Has either) around ms)

-- the terms of a whole condition, but for an `or` that waits
abbrev ReadsOr : Condition → Type 0
ReadsOr c = is_shaped ByOr c ≡ true → (around : List Level) (ms : List Mark) → terms_from (Wants nothing_waits) around (marks_onto c ms) ≡ option_map (pre_onto c) (terms_from (Has (ends_either c)) around ms)

and_by_not : (c : Condition) → ReadsNot c → is_shaped ByNot c ≡ true → (either : Bool) (around : List Level) (ms : List Mark) → terms_from (Wants (record { either = either; both = false; nots = 0 })) around (marks_onto c ms) ≡ option_map (terms_onto c) (terms_from (Has either) around ms)
unfolding completed repeated_not
and_by_not c h shaped either around ms = h shaped (record { either = either; both = false; nots = 0 }) around ms

pub one_not : (n : ℕ) → repeated_not (n + 1) ≡ Not ∷ repeated_not n
unfolding repeated_not
one_not n = let e : n + 1 ≡ suc n = omega arith in ap (λ (k : ℕ). repeated_not k) e

not_completed : (level : Level) (ts : List Term) → completed (record level { nots = level.nots + 1 }) ++ ts ≡ Not ∷ (completed level ++ ts)
unfolding completed
not_completed level ts = ap (λ (x : List Term). (x ++ elim level.both [ true ↦ And ∷ [] | false ↦ [] ]) ++ ts) (one_not level.nots)

reads_asks : (t : RplTest) → ReadsNot (AsksFor t)
unfolding terms_from taken
reads_asks t shaped level around ms = refl

reads_group : (c : Condition) → ReadsOr c → ReadsNot (Grouped c)
unfolding terms_from taken is_shaped
reads_group c h shaped level around ms =
    let rest = terms_from (Has level.either) around ms in
    ap (λ (o : Option (List Term)). option_map (λ ts. [] ++ ts) o) (h shaped (level ∷ around) (Closes ∷ ms))
    ∙ map_twice (λ ts. [] ++ ts) (pre_onto c) (option_map (λ ts. (divided (ends_either c) ++ Group ∷ completed level) ++ ts) rest)
    ∙ map_twice (λ ts. [] ++ pre_onto c ts) (λ ts. (divided (ends_either c) ++ Group ∷ completed level) ++ ts) rest
    ∙ map_same (λ ts. [] ++ pre_onto c ((divided (ends_either c) ++ Group ∷ completed level) ++ ts)) (λ ts. terms_onto c (Group ∷ (completed level ++ ts))) rest
    (λ ts. ap (λ (x : List Term). pre_onto c x) (append_assoc (divided (ends_either c)) (Group ∷ completed level) ts) ∙ with_last c (Group ∷ (completed level ++ ts)))

reads_negated : (c : Condition) → ReadsNot c → ReadsNot (Negated c)
unfolding terms_from taken is_shaped
reads_negated c h shaped level around ms =
    let rest = terms_from (Has level.either) around ms in
    ap (λ (o : Option (List Term)). option_map (λ ts. [] ++ ts) o) (h shaped (record level { nots = level.nots + 1 }) around ms)
    ∙ map_twice (λ ts. [] ++ ts) (λ ts. terms_onto c (completed (record level { nots = level.nots + 1 }) ++ ts)) rest
    ∙ map_same (λ ts. [] ++ terms_onto c (completed (record level { nots = level.nots + 1 }) ++ ts)) (λ ts. terms_onto c (Not ∷ (completed level ++ ts))) rest (λ ts. ap (λ (x : List Term). terms_onto c x) (not_completed level ts))

reads_both : (c d : Condition) → ReadsAnd c → ReadsNot d → ReadsAnd (Both c d)
unfolding terms_from taken is_shaped completed repeated_not
reads_both c d h k shaped either around ms =
    let p = and_parts (is_shaped ByAnd c) (is_shaped ByNot d) shaped in
    let rest = terms_from (Has either) around ms in
    h p.0 either around (Joins ∷ marks_onto d ms)
    ∙ ap (λ (o : Option (List Term)). option_map (terms_onto c) (option_map (λ ts. [] ++ ts) o)) (k p.1 (record { either = either; both = true; nots = 0 }) around ms)
    ∙ ap (λ (o : Option (List Term)). option_map (terms_onto c) o) (map_twice (λ ts. [] ++ ts) (λ ts. terms_onto d (And ∷ ts)) rest)
    ∙ map_twice (terms_onto c) (λ ts. [] ++ terms_onto d (And ∷ ts)) rest

reads_either : (c d : Condition) → ReadsOr c → ReadsAnd d → ReadsOr (Either c d)
unfolding terms_from taken is_shaped
reads_either c d h k shaped around ms =
    let p = and_parts (is_shaped ByOr c) (is_shaped ByAnd d) shaped in
    let rest = terms_from (Has true) around ms in
    h p.0 around (Divides ∷ marks_onto d ms)
    ∙ ap (λ (o : Option (List Term)). option_map (pre_onto c) (option_map (λ ts. divided (ends_either c) ++ ts) o)) (k p.1 true around ms)
    ∙ ap (λ (o : Option (List Term)). option_map (pre_onto c) o) (map_twice (λ ts. divided (ends_either c) ++ ts) (terms_onto d) rest)
    ∙ map_twice (pre_onto c) (λ ts. divided (ends_either c) ++ terms_onto d ts) rest
    ∙ map_same (λ ts. pre_onto c (divided (ends_either c) ++ terms_onto d ts)) (λ ts. terms_onto c (terms_onto d ts)) rest (λ ts. with_last c (terms_onto d ts))

-- how a condition is read, by how it binds
record Reads (c : Condition) : Type 0 where
  by_not : ReadsNot c
  by_and : ReadsAnd c
  by_or : ReadsOr c

no_shape : {A : Type 0} → ◌≡◌ {A = Bool} false true → A
no_shape e = absurd cc

reads : (c : Condition) → Reads c
unfolding is_shaped
reads (AsksFor t) = record { by_not = reads_asks t; by_and = and_by_not (AsksFor t) (reads_asks t); by_or = λ shaped around ms. and_by_not (AsksFor t) (reads_asks t) shaped false around ms }
reads (Grouped c) =
    let h = reads_group c (reads c).by_or in
    record { by_not = h; by_and = and_by_not (Grouped c) h; by_or = λ shaped around ms. and_by_not (Grouped c) h shaped false around ms }
reads (Negated c) =
    let h = reads_negated c (reads c).by_not in
    record { by_not = h; by_and = and_by_not (Negated c) h; by_or = λ shaped around ms. and_by_not (Negated c) h shaped false around ms }
reads (Both c d) =
    let h = reads_both c d (reads c).by_and (reads d).by_not in
    record { by_not = λ shaped. no_shape shaped; by_and = h; by_or = λ shaped around ms. h shaped false around ms }
reads (Either c d) = record { by_not = λ shaped. no_shape shaped; by_and = λ shaped. no_shape shaped; by_or = reads_either c d (reads c).by_or (reads d).by_and }

terms_read : (c : Condition) → is_shaped ByOr c ≡ true → terms_from (Wants nothing_waits) [] (marks_onto c []) ≡ Some (terms_of c)
unfolding terms_from
terms_read c shaped = (reads c).by_or shaped [] [] ∙ ap (λ (x : List Term). Some x) (at_end c ∙ sym (terms_are c))

pub condition_only : (ts : List Token) (terms : List Term) → SpellTerms ts terms → condition_in ts ≡ Some terms
unfolding condition_in
condition_only ts terms (c, shaped, spelled, is) =
    let marks = marks_only (marks_onto c []) ts (subst (SpellMarks (marks_onto c [])) (append-nil ts) (spelled_marks c [] ts [] spelled refl)) in
    rw (marks, terms_read c shaped, is) refl
