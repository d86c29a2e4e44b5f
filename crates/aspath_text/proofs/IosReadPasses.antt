-- Where no byte outside parentheses cuts a text.
use Rattle.std.proofs.Common.{◌≡◌, refl, sym, ap, ◌∙◌, subst, ℕ, ◌+◌, ◌-◌, ◌≤◌, Bool, true, false, not, ◌&&◌, ◌||◌, List, [], ◌∷◌, ◌++◌, Option, Some, arith, inl, inr, ◌⊎◌}
use Rattle.std.specs.Prelude.{◌==◌}
use Rattle.std.specs.List.{concat, list_all}
use Rattle.std.proofs.lemmas.Bool.{and_parts, or_parts, eq-eqb, ne_eqb, not-true}
use Rattle.std.proofs.lemmas.List.{append-nil}
use Rattle.route_types.specs.RouteText.{Each}
use Rattle.route_types.specs.Words.{◌>>=◌}
use Rattle.aspath_text.specs.IosGrammar.{DigitRun, SpellsRun, SpellsClass, SpellsDigitSet, SpellsWord}
use Rattle.aspath_text.specs.IosRead.{depth_behind, onto_first, parts_by, cut_at}
use Rattle.path_patterns.specs.declared.pattern.DigitWord.{DigitWord}
use Rattle.path_patterns.specs.declared.pattern.DigitWord.TheVariants.{Any, Digits}
use Rattle.path_patterns.specs.declared.pattern.DigitSet.{DigitSet}
use Rattle.aspath_text.proofs.IosReadFoundPieces.{led}

-- no such byte stands outside parentheses, from one depth to another
abbrev pub Passes : ℕ → ℕ → List ℕ → ℕ → Type 0
Passes b d [] e = d ≡ e
Passes b d (c ∷ cs) e = ((c == b && d == 0) ≡ false) × Passes b (depth_behind d c) cs e

pub passes_append : (b d e f : ℕ) (t u : List ℕ) → Passes b d t e → Passes b e u f → Passes b d (t ++ u) f
passes_append b d e f [] u h k = subst (λ (x : ℕ). Passes b x u f) (sym h) k
passes_append b d e f (c ∷ cs) u h k = (h.0, passes_append b (depth_behind d c) e f cs u h.1 k)

-- bytes in front of the first part
abbrev onto_all : List ℕ → List (List ℕ) → List (List ℕ)
onto_all [] ts = ts
onto_all (c ∷ cs) ts = onto_first c (onto_all cs ts)

onto_all_is : (t u : List ℕ) (us : List (List ℕ)) → onto_all t (u ∷ us) ≡ (t ++ u) ∷ us
onto_all_is [] u us = refl
onto_all_is (c ∷ cs) u us = ap (λ (ts : List (List ℕ)). onto_first c ts) (onto_all_is cs u us)

parts_pass : (b d e : ℕ) (t rest : List ℕ) → Passes b d t e → parts_by b d (t ++ rest) ≡ onto_all t (parts_by b e rest)
unfolding parts_by
parts_pass b d e [] rest h = ap (λ (x : ℕ). parts_by b x rest) h
parts_pass b d e (c ∷ cs) rest h =
    ap (λ (x : Bool). elim x [ true ↦ [] ∷ parts_by b (depth_behind d c) (cs ++ rest) | false ↦ onto_first c (parts_by b (depth_behind d c) (cs ++ rest)) ]) h.0
    ∙ ap (λ (ts : List (List ℕ)). onto_first c ts) (parts_pass b (depth_behind d c) e cs rest h.1)

-- each part passes behind such a byte
abbrev pub AllPass : ℕ → List (List ℕ) → Type 0
AllPass b [] = Unit {0}
AllPass b (t ∷ ts) = Passes b (depth_behind 0 b) t 0 × AllPass b ts

itself : (b : ℕ) → (b == b && 0 == 0) ≡ true
itself b = rw (eq-eqb b b refl) refl

parts_next : (b : ℕ) (text : List ℕ) → parts_by b 0 (b ∷ text) ≡ [] ∷ parts_by b (depth_behind 0 b) text
unfolding parts_by
parts_next b text = ap (λ (x : Bool). elim x [ true ↦ [] ∷ parts_by b (depth_behind 0 b) text | false ↦ onto_first b (parts_by b (depth_behind 0 b) text) ]) (itself b)

no_more : (b : ℕ) → parts_by b 0 [] ≡ [] ∷ []
unfolding parts_by
no_more b = refl

onto_none : (t : List ℕ) (us : List (List ℕ)) → onto_all t ([] ∷ us) ≡ t ∷ us
onto_none t us = onto_all_is t [] us ∙ ap (λ (x : List ℕ). x ∷ us) (append-nil t)

-- the parts are found again
pub parts_spelled : (b d : ℕ) (t : List ℕ) (ts : List (List ℕ)) → Passes b d t 0 → AllPass b ts → parts_by b d (t ++ concat (led b ts)) ≡ t ∷ ts
parts_spelled b d t [] h k = parts_pass b d 0 t [] h ∙ ap (λ (us : List (List ℕ)). onto_all t us) (no_more b) ∙ onto_none t []
parts_spelled b d t (u ∷ us) h k =
    parts_pass b d 0 t (b ∷ (u ++ concat (led b us))) h
    ∙ ap (λ (vs : List (List ℕ)). onto_all t vs) (parts_next b (u ++ concat (led b us)) ∙ ap (λ (vs : List (List ℕ)). [] ∷ vs) (parts_spelled b (depth_behind 0 b) u us k.0 k.1))
    ∙ onto_none t (u ∷ us)

-- the cut is found again
pub cut_spelled : (b d : ℕ) (t rest : List ℕ) → Passes b d t 0 → cut_at b d (t ++ (b ∷ rest)) ≡ Some (t, rest)
unfolding cut_at
cut_spelled b d [] rest h =
    ap (λ (x : Bool). elim x [ true ↦ Some ([], rest) | false ↦ cut_at b (depth_behind d b) rest >>= λ parts. Some (b ∷ parts.0, parts.1) ]) (ap (λ (y : ℕ). b == b && y == 0) h ∙ itself b)
cut_spelled b d (c ∷ cs) rest h =
    ap (λ (x : Bool). elim x [ true ↦ Some ([], cs ++ (b ∷ rest)) | false ↦ cut_at b (depth_behind d c) (cs ++ (b ∷ rest)) >>= λ parts. Some (c ∷ parts.0, parts.1) ]) h.0
    ∙ ap (λ (o : Option (List ℕ × List ℕ)). o >>= λ parts. Some (c ∷ parts.0, parts.1)) (cut_spelled b (depth_behind d c) cs rest h.1)

-- ---- bytes that cut nothing

-- no parenthesis, no `_` and no `|`
abbrev pub is_plain : ℕ → Bool
is_plain c = not (c == 40 || c == 41 || c == 95 || c == 124)

-- what a plain byte is not
pub record IsPlain (c : ℕ) : Type 0 where
  pub opens : (c == 40) ≡ false
  pub closes : (c == 41) ≡ false
  pub under : (c == 95) ≡ false
  pub bar : (c == 124) ≡ false

pub plain_is : (c : ℕ) → is_plain c ≡ true → IsPlain c
plain_is c h =
    let p = or_parts (c == 40 || c == 41 || c == 95) (c == 124) (not-true (c == 40 || c == 41 || c == 95 || c == 124) h) in
    let q = or_parts (c == 40 || c == 41) (c == 95) p.0 in
    let r = or_parts (c == 40) (c == 41) q.0 in
    record { opens = r.0; closes = r.1; under = q.1; bar = p.1 }

-- a byte at which texts are cut
abbrev pub Cuts : ℕ → Type 0
Cuts b = (c : ℕ) → IsPlain c → (c == b) ≡ false

pub opening_cuts : Cuts 40
opening_cuts c h = h.opens

pub closing_cuts : Cuts 41
closing_cuts c h = h.closes

pub under_cuts : Cuts 95
under_cuts c h = h.under

pub bar_cuts : Cuts 124
bar_cuts c h = h.bar

abbrev pub AllPlain : List ℕ → Type 0
AllPlain t = list_all is_plain t ≡ true

plain_depth : (d c : ℕ) → IsPlain c → depth_behind d c ≡ d
plain_depth d c h =
    ap (λ (x : Bool). elim x [ true ↦ d + 1 | false ↦ elim (c == 41) [ true ↦ d - 1 | false ↦ d ] ]) h.opens
    ∙ ap (λ (x : Bool). elim x [ true ↦ d - 1 | false ↦ d ]) h.closes

and_none : (a b : Bool) → a ≡ false → (a && b) ≡ false
and_none true b e = absurd cc
and_none false b e = refl

pub inside_test : (a : Bool) (d : ℕ) → (a && d + 1 == 0) ≡ false
inside_test true d = ne_eqb (d + 1) 0 (λ (e : d + 1 ≡ 0). omega (arith, e))
inside_test false d = refl

pub plain_passes : (b d : ℕ) (t : List ℕ) → Cuts b → AllPlain t → Passes b d t d
plain_passes b d [] other h = refl
plain_passes b d (c ∷ cs) other h =
    let p = and_parts (is_plain c) (list_all is_plain cs) h in
    let k = plain_is c p.0 in
    (and_none (c == b) (d == 0) (other c k), subst (λ (x : ℕ). Passes b x cs d) (sym (plain_depth d c k)) (plain_passes b d cs other p.1))

plain_append : (t u : List ℕ) → AllPlain t → AllPlain u → AllPlain (t ++ u)
plain_append [] u h k = k
plain_append (c ∷ cs) u h k =
    let p = and_parts (is_plain c) (list_all is_plain cs) h in
    ap (λ (x : Bool). x && list_all is_plain (cs ++ u)) p.0 ∙ plain_append cs u p.1 k

plain_concat : {A : Type 0} (P : List ℕ → A → Type 0) → ((t : List ℕ) (x : A) → P t x → AllPlain t) → (ts : List (List ℕ)) (xs : List A) → Each P ts xs → AllPlain (concat ts)
plain_concat P is [] xs h = refl
plain_concat P is (t ∷ ts) [] h = absurd h
plain_concat P is (t ∷ ts) (x ∷ xs) h = plain_append t (concat ts) (is t x h.0) (plain_concat P is ts xs h.1)

digit_plain : (d : ℕ) → d ≤ 9 → is_plain (48 + d) ≡ true
digit_plain d h =
    rw (ne_eqb (48 + d) 40 (λ (e : 48 + d ≡ 40). omega (arith, e)), ne_eqb (48 + d) 41 (λ (e : 48 + d ≡ 41). omega (arith, e)), ne_eqb (48 + d) 95 (λ (e : 48 + d ≡ 95). omega (arith, e)), ne_eqb (48 + d) 124 (λ (e : 48 + d ≡ 124). omega (arith, e))) refl

one_plain : (d : ℕ) → d ≤ 9 → AllPlain ((48 + d) ∷ [])
one_plain d h = ap (λ (x : Bool). x && true) (digit_plain d h)

run_plain_by : (t : List ℕ) (r : DigitRun) → r.least ≤ r.most → r.most ≤ 9 → ((t ≡ (48 + r.least) ∷ []) × (r.most ≡ r.least)) ⊎ (t ≡ (48 + r.least) ∷ 45 ∷ (48 + r.most) ∷ []) → AllPlain t
run_plain_by t r h k (inl e) = subst AllPlain (sym e.0) (one_plain r.least (omega (arith, h, k)))
run_plain_by t r h k (inr e) = subst AllPlain (sym e) (plain_append ((48 + r.least) ∷ []) (45 ∷ (48 + r.most) ∷ []) (one_plain r.least (omega (arith, h, k))) (one_plain r.most k))

run_plain : (t : List ℕ) (r : DigitRun) → SpellsRun t r → AllPlain t
run_plain t r h = run_plain_by t r h.rises h.digit h.spelled

class_plain : (t : List ℕ) (s : DigitSet) → SpellsClass t s → AllPlain t
class_plain t s h = subst AllPlain (sym h.spelled) (plain_append (concat h.parts) (93 ∷ []) (plain_concat SpellsRun run_plain h.parts h.runs h.each) refl)

digit_set_plain : (t : List ℕ) (s : DigitSet) → SpellsDigitSet t s → AllPlain t
digit_set_plain t s (inl h) = subst AllPlain (sym h.2) (one_plain h.0 h.1)
digit_set_plain t s (inr h) = class_plain t s h

-- a word cuts nothing
pub word_plain : (t : List ℕ) (w : DigitWord) → SpellsWord t w → AllPlain t
word_plain t Any h = subst AllPlain (sym h) refl
word_plain t (Digits ss) h = subst AllPlain (sym h.1) (plain_concat SpellsDigitSet digit_set_plain h.0 ss h.2)
