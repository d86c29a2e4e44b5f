-- The marks of a condition, as the program takes them.
use Rattle.std.proofs.Common.{◌≡◌, refl, sym, ap, ◌∙◌, ℕ, zero, suc, ◌+◌, ◌-◌, ◌≤◌, Bool, true, false, List, [], ◌∷◌, ◌++◌, append_assoc, length, take, drop, Option, Some, None, arith}
use Rattle.std.specs.Prelude.{option_map}
use Rattle.std.proofs.lemmas.List.{take_all, take-map, drop-map, length-drop}
use Rattle.route_types.specs.Words.{◌>>=◌}
use Rattle.text_words.specs.declared.statement.Word.{Word}
use Rattle.rpl_words.specs.Tokens.{Token, token, tokens}
use Rattle.rpl_forms.specs.Terms.{Taken, mark_at, marked_at, marks_behind, taken, terms_from, read_on, read_words, after_mark, is_sign, spans_behind}
use Rattle.text_words.specs.LineCut.{end_of}
use Rattle.text_words.specs.declared.statement.Span.{Span}
use Rattle.rpl_words.specs.Conditions.{words_behind}
use Rattle.rpl_words.specs.declared.condition.Term.{Term}
use Rattle.rpl_forms.specs.declared.marks.Mark.{Mark}
use Rattle.rpl_forms.specs.declared.marks.Level.{Level}
use Rattle.rpl_forms.specs.declared.marks.Standing.{Standing}

-- ---- slices

pub part_taken : (n : ℕ) (ws : List Word) → tokens (take (n + 1) ws) ≡ take (suc n) (tokens ws)
part_taken n ws = let e : n + 1 ≡ suc n = omega arith in ap (λ (k : ℕ). tokens (take k ws)) e ∙ sym (take-map token (suc n) ws)

pub part_whole : (n : ℕ) (ws : List Word) → length ws ≤ n → tokens ws ≡ take (suc n) (tokens ws)
part_whole n ws h = ap (λ (x : List Word). tokens x) (sym (take_all (suc n) ws (omega (arith, h)))) ∙ sym (take-map token (suc n) ws)

pub rest_whole : (n : ℕ) (ws : List Word) → length ws ≤ n → [] ≡ drop n ws
rest_whole n [] h = by_cases n
  where
    by_cases : (m : ℕ) → ◌≡◌ {A = List Word} [] (drop m [])
    by_cases zero = refl
    by_cases (suc m) = refl
rest_whole zero (w ∷ ws) h = absurd (omega (arith, h))
rest_whole (suc n) (w ∷ ws) h = rest_whole n ws (omega (arith, h))

pub rest_taken : (n : ℕ) (ws : List Word) → tokens (take (length ws - n) (drop n ws)) ≡ drop n (tokens ws)
rest_taken n ws = ap (λ (x : List Word). tokens x) (take_all (length ws - n) (drop n ws) (omega (arith, length-drop n ws))) ∙ sym (drop-map token n ws)

pub rest_whole_told : (n : ℕ) (ws : List Word) → length ws ≤ n → [] ≡ drop n (tokens ws)
rest_whole_told n ws h = ap (λ (x : List Word). tokens x) (rest_whole n ws h) ∙ sym (drop-map token n ws)

-- ---- spans

span_none : (n : ℕ) → ◌≡◌ {A = List Word} (drop n []) []
span_none zero = refl
span_none (suc n) = refl

-- words that belong to a mark before them are passed over
pub spans_drop : (n : ℕ) (ws : List Word) → spans_behind n ws ≡ spans_behind 0 (drop n ws)
unfolding spans_behind
spans_drop n [] = ap (λ (x : List Word). spans_behind 0 x) (sym (span_none n))
spans_drop zero (w ∷ ws) = refl
spans_drop (suc n) (w ∷ ws) = spans_drop n ws

-- ---- marks

drop_none : (n : ℕ) → ◌≡◌ {A = List Token} (drop n []) []
drop_none zero = refl
drop_none (suc n) = refl

-- words that belong to a mark before them are passed over
pub marks_drop : (n : ℕ) (ts : List Token) → marks_behind n ts ≡ marks_behind 0 (drop n ts)
unfolding marks_behind
marks_drop n [] = ap (λ (x : List Token). marks_behind 0 x) (sym (drop_none n))
marks_drop zero (t ∷ ts) = refl
marks_drop (suc n) (t ∷ ts) = marks_drop n ts

-- the marks by the first of them
abbrev marks_by : List Token → Option (Mark × ℕ) → Option (List Mark)
marks_by ts o = o >>= λ m. marks_behind m.1 ts >>= λ ms. Some (m.0 ∷ ms)

abbrev rest_by : List Token → Option (Mark × ℕ) → Option (Mark × List Token)
rest_by ts o = option_map (λ m. (m.0, drop m.1 ts)) o

more_terms : (terms emitted : List Term) (o : Option (List Term)) → option_map (λ ts. (terms ++ emitted) ++ ts) o ≡ option_map (λ ts. terms ++ ts) (option_map (λ ts. emitted ++ ts) o)
more_terms terms emitted None = refl
more_terms terms emitted (Some ts) = ap (λ (x : List Term). Some x) (append_assoc terms emitted ts)

-- a mark that may stand there
read_mark : (terms more : List Term) (o : Option Taken) (standing : Standing) (around : List Level) (ms : List Mark)
    → after_mark terms o ≡ Some (more, standing, around) → read_on more standing around ms ≡ option_map (λ ts. terms ++ ts) (o >>= λ t. option_map (λ ts. t.terms ++ ts) (terms_from t.standing t.around ms))
read_mark terms more None standing around ms e = absurd cc
read_mark terms more (Some t) standing around ms e =
    let same : (terms ++ t.terms, t.standing, t.around) ≡ (more, standing, around) = some_same _ _ e in
    ap (λ (x : List Term × Standing × List Level). read_on x.0 x.1 x.2 ms) (sym same) ∙ more_terms terms t.terms (terms_from t.standing t.around ms)
  where
    some_same : (a b : List Term × Standing × List Level) → Some a ≡ Some b → a ≡ b
    some_same a b e = cc

read_marks : (terms more : List Term) (now : Standing) (groups : List Level) (standing : Standing) (around : List Level) (m : Mark) (o : Option (List Mark))
    → after_mark terms (taken now groups m) ≡ Some (more, standing, around) → (o >>= read_on more standing around) ≡ (o >>= λ ms. Some (m ∷ ms)) >>= read_on terms now groups
unfolding terms_from
read_marks terms more now groups standing around m None e = refl
read_marks terms more now groups standing around m (Some ms) e = read_mark terms more (taken now groups m) standing around ms e

-- what waits, by the mark that is there
abbrev step_by : List Token → Option (Mark × ℕ) → List Term → Standing → List Level → Option (List Term)
step_by ts o terms standing around = marks_by ts o >>= read_on terms standing around

step_found : (ts behind : List Token) (o : Option (Mark × ℕ)) (m : Mark) (terms more : List Term) (now : Standing) (groups : List Level) (standing : Standing) (around : List Level)
    → Some (m, behind) ≡ rest_by ts o → after_mark terms (taken now groups m) ≡ Some (more, standing, around) → (marks_behind 0 behind >>= read_on more standing around) ≡ step_by ts o terms now groups
step_found ts behind None m terms more now groups standing around e f = absurd cc
step_found ts behind (Some k) m terms more now groups standing around e f =
    let same : (m, behind) ≡ (k.0, drop k.1 ts) = pair_same _ _ e in
    let one : m ≡ k.0 = ap (λ (x : Mark × List Token). x.0) same in
    let two : behind ≡ drop k.1 ts = ap (λ (x : Mark × List Token). x.1) same in
    ap (λ (x : List Token). marks_behind 0 x >>= read_on more standing around) two
    ∙ ap (λ (x : Option (List Mark)). x >>= read_on more standing around) (sym (marks_drop k.1 ts))
    ∙ read_marks terms more now groups standing around k.0 (marks_behind k.1 ts) (ap (λ (x : Mark). after_mark terms (taken now groups x)) (sym one) ∙ f)
  where
    pair_same : (a b : Mark × List Token) → Some a ≡ Some b → a ≡ b
    pair_same a b e = cc

-- a mark that may stand there
pub step_taken : (ts behind : List Token) (m : Mark) (terms more : List Term) (now : Standing) (groups : List Level) (standing : Standing) (around : List Level)
    → Some (m, behind) ≡ marked_at ts → after_mark terms (taken now groups m) ≡ Some (more, standing, around) → (marks_behind 0 behind >>= read_on more standing around) ≡ (marks_behind 0 ts >>= read_on terms now groups)
unfolding marked_at marks_behind
step_taken [] behind m terms more now groups standing around e f = absurd cc
step_taken (t ∷ ts) behind m terms more now groups standing around e f = step_found ts behind (mark_at t ts) m terms more now groups standing around e f

read_refused : (terms : List Term) (now : Standing) (groups : List Level) (m : Mark) (o : Option (List Mark))
    → after_mark terms (taken now groups m) ≡ None → None ≡ (o >>= λ ms. Some (m ∷ ms)) >>= read_on terms now groups
unfolding terms_from
read_refused terms now groups m None e = refl
read_refused terms now groups m (Some ms) e = by_cases (taken now groups m) e
  where
    by_cases : (t : Option Taken) → after_mark terms t ≡ None → None ≡ option_map (λ ts. terms ++ ts) (t >>= λ t. option_map (λ ts. t.terms ++ ts) (terms_from t.standing t.around ms))
    by_cases None e = refl
    by_cases (Some t) e = absurd cc

refused_found : (ts behind : List Token) (o : Option (Mark × ℕ)) (m : Mark) (terms : List Term) (now : Standing) (groups : List Level)
    → Some (m, behind) ≡ rest_by ts o → after_mark terms (taken now groups m) ≡ None → None ≡ step_by ts o terms now groups
refused_found ts behind None m terms now groups e f = absurd cc
refused_found ts behind (Some k) m terms now groups e f =
    let one : m ≡ k.0 = first_same _ _ e in
    read_refused terms now groups k.0 (marks_behind k.1 ts) (ap (λ (x : Mark). after_mark terms (taken now groups x)) (sym one) ∙ f)
  where
    first_same : (a b : Mark × List Token) → Some a ≡ Some b → a.0 ≡ b.0
    first_same a b e = cc

-- a mark that may not stand there
pub step_refused : (ts behind : List Token) (m : Mark) (terms : List Term) (now : Standing) (groups : List Level)
    → Some (m, behind) ≡ marked_at ts → after_mark terms (taken now groups m) ≡ None → None ≡ (marks_behind 0 ts >>= read_on terms now groups)
unfolding marked_at marks_behind
step_refused [] behind m terms now groups e f = absurd cc
step_refused (t ∷ ts) behind m terms now groups e f = refused_found ts behind (mark_at t ts) m terms now groups e f

none_found : (ts : List Token) (o : Option (Mark × ℕ)) (terms : List Term) (now : Standing) (groups : List Level) → None ≡ rest_by ts o → None ≡ step_by ts o terms now groups
none_found ts None terms now groups e = refl
none_found ts (Some k) terms now groups e = absurd cc

-- no mark, where there are words
pub step_none : (ts : List Token) (terms : List Term) (now : Standing) (groups : List Level) → 1 ≤ length ts → None ≡ marked_at ts → None ≡ (marks_behind 0 ts >>= read_on terms now groups)
unfolding marked_at marks_behind
step_none [] terms now groups some e = absurd (omega (arith, some))
step_none (t ∷ ts) terms now groups some e = none_found ts (mark_at t ts) terms now groups e

-- a mark that the program takes
pub step_ok : (ts behind : List Token) (m : Mark) (terms more : List Term) (now : Standing) (groups : List Level) (standing : Standing) (around : List Level) (ok : Bool)
    → Some (m, behind) ≡ marked_at ts → after_mark terms (taken now groups m) ≡ elim ok [ true ↦ Some (more, standing, around) | false ↦ None ] → ok ≡ true → read_words more standing around behind ≡ read_words terms now groups ts
step_ok ts behind m terms more now groups standing around true e f k = step_taken ts behind m terms more now groups standing around e f
step_ok ts behind m terms more now groups standing around false e f k = absurd cc

-- a mark that the program refuses
pub step_not_ok : (ts behind : List Token) (m : Mark) (terms more : List Term) (now : Standing) (groups : List Level) (standing : Standing) (around : List Level) (ok : Bool)
    → Some (m, behind) ≡ marked_at ts → after_mark terms (taken now groups m) ≡ elim ok [ true ↦ Some (more, standing, around) | false ↦ None ] → ok ≡ false → None ≡ read_words terms now groups ts
step_not_ok ts behind m terms more now groups standing around true e f k = absurd cc
step_not_ok ts behind m terms more now groups standing around false e f k = step_refused ts behind m terms now groups e f

-- no mark, where there are words
pub step_none_words : (ws : List Word) (terms : List Term) (now : Standing) (groups : List Level) → 1 ≤ length ws → None ≡ marked_at (tokens ws) → None ≡ read_words terms now groups (tokens ws)
step_none_words [] terms now groups some e = absurd (omega (arith, some))
step_none_words (w ∷ ws) terms now groups some e = step_none (tokens (w ∷ ws)) terms now groups (omega arith) e

-- ---- spans, as the program takes them

pub span_pushed : (w : Word) (ws : List Word) (n start end : ℕ) (found more : List Span) (rest : List Word)
    → n ≡ words_behind (tokens (w ∷ ws)) → is_sign (token w) ≡ false → start ≡ w.span.start → end ≡ end_of w.span.end (take n ws) → more ≡ found ++ (record { start = start; end = end }) ∷ [] → rest ≡ drop n ws
    → more ++ spans_behind 0 rest ≡ found ++ spans_behind 0 (w ∷ ws)
unfolding spans_behind
span_pushed w ws n start end found more rest count sign begins ends pushed behind =
    let span : Span = record { start = start; end = end } in
    let here : spans_behind 0 (w ∷ ws) ≡ span ∷ spans_behind n ws =
    rw (sign, spans_behind) (rw (sym count) (rw (begins, ends) refl)) in
    ap (λ (x : List Span). x ++ spans_behind 0 rest) pushed ∙ append_assoc found (span ∷ []) (spans_behind 0 rest)
    ∙ ap (λ (x : List Word). found ++ (span ∷ spans_behind 0 x)) behind ∙ ap (λ (x : List Span). found ++ (span ∷ x)) (sym (spans_drop n ws))
    ∙ ap (λ (x : List Span). found ++ x) (sym here)
