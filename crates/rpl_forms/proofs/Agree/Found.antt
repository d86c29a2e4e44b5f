-- The terms that are found are those of a condition that the words spell.
use Rattle.std.proofs.Common.{◌≡◌, refl, sym, ap, ◌∙◌, subst, ℕ, zero, suc, ◌+◌, Bool, true, false, List, [], ◌∷◌, ◌++◌, append_assoc, map, Option, Some, None, arith}
use Rattle.std.specs.Prelude.{option_map}
use Rattle.std.proofs.lemmas.Bool.{and_from}
use Rattle.std.proofs.lemmas.List.{append-nil}
use Rattle.route_types.proofs.Numbers.{bind_found, some_is}
use Rattle.policy_text.specs.Phrases.{Agrees}
use Rattle.policy_text.proofs.Phrases.{map_found}
use Rattle.rpl_words.specs.Tokens.{Token}
use Rattle.rpl_words.specs.Conditions.{Condition, Asks as AsksFor, Grouped, Negated, Both, Either, ByOr, ByAnd, ByNot, is_shaped, SpellCondition, SpellTerms}
use Rattle.rpl_forms.specs.Terms.{marks_behind, nothing_waits, repeated_not, completed, divided, taken, terms_from, condition_in}
use Rattle.rpl_words.specs.declared.condition.RplTest.{RplTest}
use Rattle.rpl_words.specs.declared.condition.Term.{Term}
use Rattle.rpl_words.specs.declared.condition.Term.TheVariants.{Test, Group, Not, And}
use Rattle.rpl_forms.specs.declared.marks.Level.{Level}
use Rattle.rpl_forms.specs.declared.marks.Mark.{Mark}
use Rattle.rpl_forms.specs.declared.marks.Mark.TheVariants.{Asks, Opens, Closes, Negates, Joins, Divides}
use Rattle.rpl_forms.specs.declared.marks.Standing.TheVariants.{Wants, Has}
use Rattle.rpl_forms.proofs.Agree.Marks.{SpellMarks, behind_found}
use Rattle.rpl_forms.proofs.Agree.Terms.{marks_onto, terms_onto, terms_are, marks_spelled, condition_only}

-- ---- what stands before a place

-- what waits for an operand: the condition before an `or`, that before an `and`, and the `not`s
record Frame : Type 0 where
  first : Option Condition
  second : Option Condition
  nots : ℕ

abbrev is_there : Option Condition → Bool
is_there (Some c) = true
is_there None = false

abbrev level_of : Frame → Level
level_of f = record { either = is_there f.first; both = is_there f.second; nots = f.nots }

-- the marks before others
abbrev or_marks : Option Condition → List Mark → List Mark
or_marks (Some a) r = marks_onto a (Divides ∷ r)
or_marks None r = r

abbrev and_marks : Option Condition → List Mark → List Mark
and_marks (Some a) r = marks_onto a (Joins ∷ r)
and_marks None r = r

abbrev not_marks : ℕ → List Mark → List Mark
not_marks zero r = r
not_marks (suc n) r = Negates ∷ not_marks n r

abbrev marks_in : Frame → List Mark → List Mark
marks_in f r = or_marks f.first (and_marks f.second (not_marks f.nots r))

abbrev marks_around : List Frame → List Mark → List Mark
marks_around [] r = r
marks_around (f ∷ fs) r = marks_around fs (marks_in f (Opens ∷ r))

-- the terms before others
abbrev terms_there : Option Condition → List Term → List Term
terms_there (Some a) r = terms_onto a r
terms_there None r = r

abbrev terms_in : Frame → List Term → List Term
terms_in f r = terms_there f.first (terms_there f.second r)

abbrev terms_around : List Frame → List Term → List Term
terms_around [] r = r
terms_around (f ∷ fs) r = terms_around fs (terms_in f r)

-- the conditions bind as they may
abbrev OrShaped : Option Condition → Type 0
OrShaped (Some c) = is_shaped ByOr c ≡ true
OrShaped None = Unit {0}

abbrev AndShaped : Option Condition → Type 0
AndShaped (Some c) = is_shaped ByAnd c ≡ true
AndShaped None = Unit {0}

abbrev AreShaped : List Frame → Type 0
AreShaped [] = Unit {0}
AreShaped (f ∷ fs) = OrShaped f.first × AndShaped f.second × AreShaped fs

-- ---- conditions that are completed

abbrev negated : ℕ → Condition → Condition
negated zero c = c
negated (suc n) c = Negated (negated n c)

abbrev joined : Option Condition → Condition → Condition
joined (Some a) c = Both a c
joined None c = c

abbrev whole : Option Condition → Condition → Condition
whole (Some a) c = Either a c
whole None c = c

and_of_not : (c : Condition) → is_shaped ByNot c ≡ true → is_shaped ByAnd c ≡ true
unfolding is_shaped
and_of_not (AsksFor t) h = refl
and_of_not (Grouped c) h = h
and_of_not (Negated c) h = h
and_of_not (Both c d) h = absurd cc
and_of_not (Either c d) h = absurd cc

or_of_and : (c : Condition) → is_shaped ByAnd c ≡ true → is_shaped ByOr c ≡ true
unfolding is_shaped
or_of_and (AsksFor t) h = refl
or_of_and (Grouped c) h = h
or_of_and (Negated c) h = h
or_of_and (Both c d) h = h
or_of_and (Either c d) h = absurd cc

negated_shape : (n : ℕ) (c : Condition) → is_shaped ByNot c ≡ true → is_shaped ByNot (negated n c) ≡ true
unfolding is_shaped
negated_shape zero c h = h
negated_shape (suc n) c h = negated_shape n c h

joined_shape : (o : Option Condition) (c : Condition) → AndShaped o → is_shaped ByNot c ≡ true → is_shaped ByAnd (joined o c) ≡ true
unfolding is_shaped
joined_shape (Some a) c k h = and_from (is_shaped ByAnd a) (is_shaped ByNot c) k h
joined_shape None c k h = and_of_not c h

whole_shape : (o : Option Condition) (c : Condition) → OrShaped o → is_shaped ByAnd c ≡ true → is_shaped ByOr (whole o c) ≡ true
unfolding is_shaped
whole_shape (Some a) c k h = and_from (is_shaped ByOr a) (is_shaped ByAnd c) k h
whole_shape None c k h = or_of_and c h

-- the operand that an operand completes
abbrev operand : Frame → Condition → Condition
operand f c = joined f.second (negated f.nots c)

negated_marks : (n : ℕ) (c : Condition) (r : List Mark) → marks_onto (negated n c) r ≡ not_marks n (marks_onto c r)
negated_marks zero c r = refl
negated_marks (suc n) c r = ap (λ (x : List Mark). Negates ∷ x) (negated_marks n c r)

joined_marks : (o : Option Condition) (n : ℕ) (c : Condition) (r : List Mark) → marks_onto (joined o (negated n c)) r ≡ and_marks o (not_marks n (marks_onto c r))
joined_marks (Some a) n c r = ap (λ (x : List Mark). marks_onto a (Joins ∷ x)) (negated_marks n c r)
joined_marks None n c r = negated_marks n c r

nots_behind : (n : ℕ) (r : List Term) → repeated_not n ++ Not ∷ r ≡ Not ∷ (repeated_not n ++ r)
unfolding repeated_not
nots_behind zero r = refl
nots_behind (suc n) r = ap (λ (x : List Term). Not ∷ x) (nots_behind n r)

negated_terms : (n : ℕ) (c : Condition) (r : List Term) → terms_onto (negated n c) r ≡ terms_onto c (repeated_not n ++ r)
unfolding repeated_not
negated_terms zero c r = refl
negated_terms (suc n) c r = negated_terms n c (Not ∷ r) ∙ ap (λ (x : List Term). terms_onto c x) (nots_behind n r)

joined_terms : (o : Option Condition) (n : ℕ) (either : Bool) (c : Condition) (r : List Term) → terms_onto (joined o (negated n c)) r ≡ terms_there o (terms_onto c (completed (record { either = either; both = is_there o; nots = n }) ++ r))
unfolding completed
joined_terms (Some a) n either c r = ap (λ (x : List Term). terms_onto a x) (negated_terms n c (And ∷ r) ∙ ap (λ (x : List Term). terms_onto c x) (sym (append_assoc (repeated_not n) (And ∷ []) r)))
joined_terms None n either c r = negated_terms n c r ∙ ap (λ (x : List Term). terms_onto c x) (sym (append_assoc (repeated_not n) [] r))

-- ---- what is found

-- a condition of these marks and terms
abbrev Made : List Mark → List Term → Type 0
Made marks terms = (c : Condition) × (is_shaped ByOr c ≡ true) × (marks_onto c [] ≡ marks) × (terms_onto c [] ≡ terms)

-- where an operand is wanted
abbrev Wanted : List Mark → Type 0
Wanted ms = (f : Frame) (fs : List Frame) (out : List Term) → AreShaped (f ∷ fs) → terms_from (Wants (level_of f)) (map level_of fs) ms ≡ Some out → Made (marks_around fs (marks_in f ms)) (terms_around fs (terms_in f out))

-- behind an operand
abbrev Had : List Mark → Type 0
Had ms = (first : Option Condition) (b : Condition) (fs : List Frame) (out : List Term) → OrShaped first → is_shaped ByAnd b ≡ true → AreShaped fs → terms_from (Has (is_there first)) (map level_of fs) ms ≡ Some out
    → Made (marks_around fs (or_marks first (marks_onto b ms))) (terms_around fs (terms_there first (terms_onto b out)))

record Makes (ms : List Mark) : Type 0 where
  wanted : Wanted ms
  had : Had ms

-- the same by equal marks and terms
made_by : (marks others : List Mark) (terms more : List Term) → marks ≡ others → terms ≡ more → Made marks terms → Made others more
made_by marks others terms more e h (c, shaped, m, t) = (c, shaped, m ∙ e, t ∙ h)

whole_marks : (o : Option Condition) (b : Condition) (r : List Mark) → marks_onto (whole o b) r ≡ or_marks o (marks_onto b r)
whole_marks (Some a) b r = refl
whole_marks None b r = refl

whole_terms : (o : Option Condition) (b : Condition) (r : List Term) → terms_onto (whole o b) r ≡ terms_there o (terms_onto b (divided (is_there o) ++ r))
whole_terms (Some a) b r = refl
whole_terms None b r = refl

divided_end : (either : Bool) → divided either ++ [] ≡ divided either
divided_end true = refl
divided_end false = refl

made_at_end : (first : Option Condition) (b : Condition) (fs : List Frame) (out : List Term) → OrShaped first → is_shaped ByAnd b ≡ true → terms_from (Has (is_there first)) (map level_of fs) [] ≡ Some out → Made (marks_around fs (or_marks first (marks_onto b []))) (terms_around fs (terms_there first (terms_onto b out)))
unfolding terms_from
made_at_end first b [] out k h e =
    let is = some_is (divided (is_there first)) out e in
    (whole first b, whole_shape first b k h, whole_marks first b [], whole_terms first b [] ∙ ap (λ (x : List Term). terms_there first (terms_onto b x)) (divided_end (is_there first) ∙ is))
made_at_end first b (f ∷ fs) out k h e = absurd cc

-- an operand is complete: what is behind it goes on behind the operand that it completes
complete : (ms : List Mark) → Had ms → (f : Frame) (fs : List Frame) (c : Condition) (out : List Term) → AreShaped (f ∷ fs) → is_shaped ByNot c ≡ true → terms_from (Has (is_there f.first)) (map level_of fs) ms ≡ Some out
    → Made (marks_around fs (marks_in f (marks_onto c ms))) (terms_around fs (terms_in f (terms_onto c (completed (level_of f) ++ out))))
complete ms h f fs c out shaped k e =
    made_by (marks_around fs (or_marks f.first (marks_onto (operand f c) ms))) (marks_around fs (marks_in f (marks_onto c ms))) (terms_around fs (terms_there f.first (terms_onto (operand f c) out))) (terms_around fs (terms_in f (terms_onto c (completed (level_of f) ++ out))))
    (ap (λ (x : List Mark). marks_around fs (or_marks f.first x)) (joined_marks f.second f.nots c ms))
    (ap (λ (x : List Term). terms_around fs (terms_there f.first x)) (joined_terms f.second f.nots (is_there f.first) c out))
    (h f.first (operand f c) fs out shaped.0 (joined_shape f.second (negated f.nots c) shaped.1 (negated_shape f.nots c k)) shaped.2 e)

one_more_not : (n : ℕ) (r : List Mark) → not_marks (suc n) r ≡ not_marks n (Negates ∷ r)
one_more_not zero r = refl
one_more_not (suc n) r = ap (λ (x : List Mark). Negates ∷ x) (one_more_not n r)

asks_shaped : (t : RplTest) → is_shaped ByNot (AsksFor t) ≡ true
unfolding is_shaped
asks_shaped t = refl

group_shaped : (c : Condition) → is_shaped ByOr c ≡ true → is_shaped ByNot (Grouped c) ≡ true
unfolding is_shaped
group_shaped c h = h

wanted_behind : (m : Mark) (ms : List Mark) → Makes ms → Wanted (m ∷ ms)
unfolding terms_from taken
wanted_behind (Asks t) ms h f fs out shaped e =
    let x = map_found (terms_from (Has (is_there f.first)) (map level_of fs) ms) (λ ts. (Test t ∷ completed (level_of f)) ++ ts) out e in
    let Out : List Term → Type 0 = λ ts. Made (marks_around fs (marks_in f (Asks t ∷ ms))) (terms_around fs (terms_in f ts)) in
    subst Out x.2 (complete ms h.had f fs (AsksFor t) x.0 shaped (asks_shaped t) x.1)
wanted_behind Opens ms h f fs out shaped e =
    let x = map_found (terms_from (Wants nothing_waits) (level_of f ∷ map level_of fs) ms) (λ ts. [] ++ ts) out e in
    let Out : List Term → Type 0 = λ ts. Made (marks_around fs (marks_in f (Opens ∷ ms))) (terms_around fs (terms_in f ts)) in
    subst Out x.2 (h.wanted (record { first = None; second = None; nots = 0 }) (f ∷ fs) x.0 (tt, tt, shaped) x.1)
wanted_behind Negates ms h f fs out shaped e =
    let x = map_found (terms_from (Wants (record { either = is_there f.first; both = is_there f.second; nots = f.nots + 1 })) (map level_of fs) ms) (λ ts. [] ++ ts) out e in
    let more : f.nots + 1 ≡ suc f.nots = omega arith in
    let level : terms_from (Wants (record { either = is_there f.first; both = is_there f.second; nots = suc f.nots })) (map level_of fs) ms ≡ Some x.0 =
    ap (λ (n : ℕ). terms_from (Wants (record { either = is_there f.first; both = is_there f.second; nots = n })) (map level_of fs) ms) (sym more) ∙ x.1 in
    let Out : List Term → Type 0 = λ ts. Made (marks_around fs (marks_in f (Negates ∷ ms))) (terms_around fs (terms_in f ts)) in
    let marks = ap (λ (r : List Mark). marks_around fs (or_marks f.first (and_marks f.second r))) (one_more_not f.nots ms) in
    subst Out x.2 (made_by _ _ _ _ marks refl (h.wanted (record { first = f.first; second = f.second; nots = suc f.nots }) fs x.0 shaped level))
wanted_behind Closes ms h f fs out shaped e = absurd cc
wanted_behind Joins ms h f fs out shaped e = absurd cc
wanted_behind Divides ms h f fs out shaped e = absurd cc

-- the end of a group
closed : (ms : List Mark) → Had ms → (first : Option Condition) (b : Condition) (f : Frame) (fs : List Frame) (out : List Term) → OrShaped first → is_shaped ByAnd b ≡ true → AreShaped (f ∷ fs) → terms_from (Has (is_there f.first)) (map level_of fs) ms ≡ Some out
    → Made (marks_around (f ∷ fs) (or_marks first (marks_onto b (Closes ∷ ms)))) (terms_around (f ∷ fs) (terms_there first (terms_onto b ((divided (is_there first) ++ Group ∷ completed (level_of f)) ++ out))))
closed ms h first b f fs out k shaped others e =
    let c = Grouped (whole first b) in
    let marks : marks_in f (marks_onto c ms) ≡ marks_in f (Opens ∷ or_marks first (marks_onto b (Closes ∷ ms))) = ap (λ (r : List Mark). marks_in f (Opens ∷ r)) (whole_marks first b (Closes ∷ ms)) in
    let terms : terms_onto c (completed (level_of f) ++ out) ≡ terms_there first (terms_onto b ((divided (is_there first) ++ Group ∷ completed (level_of f)) ++ out)) =
    whole_terms first b (Group ∷ (completed (level_of f) ++ out)) ∙ ap (λ (r : List Term). terms_there first (terms_onto b r)) (sym (append_assoc (divided (is_there first)) (Group ∷ completed (level_of f)) out)) in
    made_by (marks_around fs (marks_in f (marks_onto c ms))) (marks_around (f ∷ fs) (or_marks first (marks_onto b (Closes ∷ ms))))
    (terms_around fs (terms_in f (terms_onto c (completed (level_of f) ++ out)))) (terms_around (f ∷ fs) (terms_there first (terms_onto b ((divided (is_there first) ++ Group ∷ completed (level_of f)) ++ out))))
    (ap (λ (r : List Mark). marks_around fs r) marks) (ap (λ (r : List Term). terms_around fs (terms_in f r)) terms) (complete ms h f fs c out others (group_shaped (whole first b) (whole_shape first b k shaped)) e)

had_behind : (m : Mark) (ms : List Mark) → Makes ms → Had (m ∷ ms)
unfolding terms_from taken
had_behind Joins ms h first b fs out k shaped others e =
    let x = map_found (terms_from (Wants (record { either = is_there first; both = true; nots = 0 })) (map level_of fs) ms) (λ ts. [] ++ ts) out e in
    let Out : List Term → Type 0 = λ ts. Made (marks_around fs (or_marks first (marks_onto b (Joins ∷ ms)))) (terms_around fs (terms_there first (terms_onto b ts))) in
    subst Out x.2 (h.wanted (record { first = first; second = Some b; nots = 0 }) fs x.0 (k, shaped, others) x.1)
had_behind Divides ms h first b fs out k shaped others e =
    let x = map_found (terms_from (Wants (record { either = true; both = false; nots = 0 })) (map level_of fs) ms) (λ ts. divided (is_there first) ++ ts) out e in
    let Out : List Term → Type 0 = λ ts. Made (marks_around fs (or_marks first (marks_onto b (Divides ∷ ms)))) (terms_around fs (terms_there first (terms_onto b ts))) in
    let marks = ap (λ (r : List Mark). marks_around fs r) (whole_marks first b (Divides ∷ ms)) in
    let terms = ap (λ (r : List Term). terms_around fs r) (whole_terms first b x.0) in
    subst Out x.2 (made_by _ _ _ _ marks terms (h.wanted (record { first = Some (whole first b); second = None; nots = 0 }) fs x.0 (whole_shape first b k shaped, tt, others) x.1))
had_behind Closes ms h first b [] out k shaped others e = absurd cc
had_behind Closes ms h first b (f ∷ fs) out k shaped others e =
    let x = map_found (terms_from (Has (is_there f.first)) (map level_of fs) ms) (λ ts. (divided (is_there first) ++ Group ∷ completed (level_of f)) ++ ts) out e in
    let Out : List Term → Type 0 = λ ts. Made (marks_around (f ∷ fs) (or_marks first (marks_onto b (Closes ∷ ms)))) (terms_around (f ∷ fs) (terms_there first (terms_onto b ts))) in
    subst Out x.2 (closed ms h.had first b f fs x.0 k shaped others x.1)
had_behind (Asks t) ms h first b [] out k shaped others e = absurd cc
had_behind (Asks t) ms h first b (f ∷ fs) out k shaped others e = absurd cc
had_behind Opens ms h first b [] out k shaped others e = absurd cc
had_behind Opens ms h first b (f ∷ fs) out k shaped others e = absurd cc
had_behind Negates ms h first b [] out k shaped others e = absurd cc
had_behind Negates ms h first b (f ∷ fs) out k shaped others e = absurd cc

not_at_end : (f : Frame) (fs : List Frame) (out : List Term) → terms_from (Wants (level_of f)) (map level_of fs) [] ≡ Some out → Made (marks_around fs (marks_in f [])) (terms_around fs (terms_in f out))
unfolding terms_from
not_at_end f [] out e = absurd cc
not_at_end f (g ∷ gs) out e = absurd cc

makes : (ms : List Mark) → Makes ms
makes [] = record { wanted = λ f fs out shaped e. not_at_end f fs out e; had = λ first b fs out k shaped others e. made_at_end first b fs out k shaped e }
makes (m ∷ ms) = record { wanted = wanted_behind m ms (makes ms); had = had_behind m ms (makes ms) }

condition_found : (ts : List Token) (terms : List Term) → condition_in ts ≡ Some terms → SpellTerms ts terms
unfolding condition_in
condition_found ts terms e =
    let marks = bind_found (marks_behind 0 ts) (λ ms. option_map (λ xs. [] ++ xs) (terms_from (Wants nothing_waits) [] ms)) terms e in
    let x = map_found (terms_from (Wants nothing_waits) [] marks.0) (λ xs. [] ++ xs) terms marks.2 in
    let (c, shaped, m, t) = (makes marks.0).wanted (record { first = None; second = None; nots = 0 }) [] x.0 (tt, tt, tt) x.1 in
    let (front, rest, text, spelled, none) = marks_spelled c [] ts (subst (λ (ms : List Mark). SpellMarks ms ts) (sym m) (behind_found ts 0 marks.0 marks.1)) in
    let whole_text : front ≡ ts = sym (text ∙ ap (λ (us : List Token). front ++ us) none ∙ append-nil front) in
    (c, shaped, subst (λ (us : List Token). SpellCondition us c) whole_text spelled, sym (terms_are c ∙ t ∙ x.2))

pub condition_agrees : Agrees condition_in SpellTerms
condition_agrees = record { found = condition_found; only = condition_only }
