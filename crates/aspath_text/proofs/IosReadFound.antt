-- What is found in a text is spelled by it.
use Rattle.std.proofs.Common.{◌≡◌, refl, sym, ap, ◌∙◌, subst, ℕ, ◌+◌, ◌-◌, ◌^◌, ◌≤◌, Bool, true, false, nat_le, ◌&&◌, List, [], ◌∷◌, ◌++◌, length, Option, Some, arith, inl, inr}
use Rattle.std.specs.Prelude.{◌==◌}
use Rattle.std.specs.Int.Bits.{bit_or}
use Rattle.std.specs.List.{concat}
use Rattle.std.proofs.lemmas.Bool.{and_parts, eqb-true, leb-true}
use Rattle.route_types.specs.RouteText.{Each}
use Rattle.route_types.specs.Words.{◌>>=◌, is_digit}
use Rattle.route_types.proofs.Numbers.{bind_found, some_is, digit_range}
use Rattle.route_types.proofs.Spelled.{ap2}
use Rattle.policy_text.proofs.Phrases.{when_found}
use Rattle.aspath_text.specs.IosGrammar.{joined_by, DigitRun, IsSetOf, SpellsRun, SpellsClass}
use Rattle.aspath_text.specs.IosRead.{depth_behind, onto_first, parts_by, cut_at, run_in, runs_after, class_in}
use Rattle.path_patterns.specs.declared.pattern.DigitSet.{DigitSet}
use Rattle.aspath_text.proofs.IosReadBits.{all_bits, is_set_of}
use Rattle.aspath_text.proofs.IosReadCuts.{parts_split}
use Rattle.aspath_text.proofs.IosReadShaped.{runs_are_digits}

-- ---- cuts

-- one more byte in front of the first part stands in front of the text
pub joined_onto : (b c : ℕ) (ts : List (List ℕ)) → joined_by b (onto_first c ts) ≡ c ∷ joined_by b ts
unfolding joined_by
joined_onto b c [] = refl
joined_onto b c (t ∷ []) = refl
joined_onto b c (t ∷ u ∷ us) = refl

joined_next : (b : ℕ) (ts : List (List ℕ)) (t : List ℕ) (us : List (List ℕ)) → ts ≡ t ∷ us → joined_by b ([] ∷ ts) ≡ b ∷ joined_by b ts
unfolding joined_by
joined_next b [] t us e = absurd cc
joined_next b (v ∷ vs) t us e = refl

joined_case : (t : Bool) (b c d e : ℕ) (cs : List ℕ) → (c == b && d == 0) ≡ t → joined_by b (parts_by b e cs) ≡ cs → joined_by b (elim t [ true ↦ [] ∷ parts_by b e cs | false ↦ onto_first c (parts_by b e cs) ]) ≡ c ∷ cs
joined_case true b c d e cs test more =
    let p = and_parts (c == b) (d == 0) test in
    joined_next b (parts_by b e cs) _ _ (parts_split b e cs) ∙ ap2 (λ (x : ℕ) (xs : List ℕ). x ∷ xs) (sym (eqb-true c b p.0)) more
joined_case false b c d e cs test more = joined_onto b c (parts_by b e cs) ∙ ap (λ (xs : List ℕ). c ∷ xs) more

-- the parts make up the text
pub joined_parts : (b d : ℕ) (text : List ℕ) → joined_by b (parts_by b d text) ≡ text
unfolding parts_by joined_by
joined_parts b d [] = refl
joined_parts b d (c ∷ cs) = joined_case (c == b && d == 0) b c d (depth_behind d c) cs refl (joined_parts b (depth_behind d c) cs)

cut_case : (t : Bool) (b c d : ℕ) (cs : List ℕ) (o : Option (List ℕ × List ℕ)) (p : List ℕ × List ℕ) → (c == b && d == 0) ≡ t → ((q : List ℕ × List ℕ) → o ≡ Some q → cs ≡ q.0 ++ (b ∷ q.1)) → (elim t [ true ↦ Some ([], cs) | false ↦ o >>= λ q. Some (c ∷ q.0, q.1) ]) ≡ Some p → c ∷ cs ≡ p.0 ++ (b ∷ p.1)
cut_case true b c d cs o p test more e =
    let k = and_parts (c == b) (d == 0) test in
    subst (λ (q : List ℕ × List ℕ). (c ∷ cs) ≡ q.0 ++ (b ∷ q.1)) (some_is ([], cs) p e) (ap (λ (x : ℕ). x ∷ cs) (eqb-true c b k.0))
cut_case false b c d cs o p test more e =
    let f = bind_found o (λ q. Some (c ∷ q.0, q.1)) p e in
    subst (λ (q : List ℕ × List ℕ). (c ∷ cs) ≡ q.0 ++ (b ∷ q.1)) (some_is (c ∷ f.0.0, f.0.1) p f.2) (ap (λ (xs : List ℕ). c ∷ xs) (more f.0 f.1))

-- a cut leaves out its byte alone
pub cut_found : (b d : ℕ) (text : List ℕ) (p : List ℕ × List ℕ) → cut_at b d text ≡ Some p → text ≡ p.0 ++ (b ∷ p.1)
unfolding cut_at
cut_found b d [] p e = absurd cc
cut_found b d (c ∷ cs) p e = cut_case (c == b && d == 0) b c d cs (cut_at b (depth_behind d c) cs) p refl (λ q h. cut_found b (depth_behind d c) cs q h) e

-- ---- classes

-- the runs that are found in a text
record RunsFound (v : ℕ) (text : List ℕ) (w : ℕ) : Type 0 where
  runs : List DigitRun
  parts : List (List ℕ)
  spelled : text ≡ concat parts
  each : Each SpellsRun parts runs
  made : all_bits v runs ≡ w

-- what a run of two digits' bytes tells
record RunIs (c e m : ℕ) : Type 0 where
  least : 48 ≤ c
  rises : c ≤ e
  most : e ≤ 57
  made : 2 ^ (e - 48 + 1) - 2 ^ (c - 48) ≡ m

run_is : (c e m : ℕ) → run_in c e ≡ Some m → RunIs c e m
run_is c e m h =
    let k = when_found (is_digit c && is_digit e && nat_le c e) _ m h in
    let p = and_parts (is_digit c && is_digit e) (nat_le c e) k.0 in
    let q = and_parts (is_digit c) (is_digit e) p.0 in
    record { least = (digit_range c q.0).0; rises = leb-true c e p.1; most = (digit_range e q.1).1; made = k.1 }

abbrev run_of : ℕ → ℕ → DigitRun
run_of c e = record { least = c - 48; most = e - 48 }

one_spelled : (c m : ℕ) → RunIs c c m → SpellsRun (c ∷ []) (run_of c c)
one_spelled c m h =
    let k : c ≡ 48 + (c - 48) = omega (arith, h.least) in
    record { rises = omega arith; digit = omega (arith, h.most); spelled = inl (ap (λ (x : ℕ). x ∷ []) k, refl) }

two_spelled : (c e m : ℕ) → RunIs c e m → SpellsRun (c ∷ 45 ∷ e ∷ []) (run_of c e)
two_spelled c e m h =
    let k : c ≡ 48 + (c - 48) = omega (arith, h.least) in
    let l : e ≡ 48 + (e - 48) = omega (arith, h.least, h.rises) in
    record { rises = omega (arith, h.rises); digit = omega (arith, h.most); spelled = inr (ap2 (λ (x y : ℕ). x ∷ 45 ∷ y ∷ []) k l) }

with_one : (v c m : ℕ) (rest : List ℕ) (w : ℕ) → run_in c c ≡ Some m → RunsFound (bit_or v m) rest w → RunsFound v (c ∷ rest) w
with_one v c m rest w e f =
    let h = run_is c c m e in
    record {
      runs = run_of c c ∷ f.runs;
      parts = (c ∷ []) ∷ f.parts;
      spelled = ap (λ (t : List ℕ). c ∷ t) f.spelled;
      each = (one_spelled c m h, f.each);
      made = ap (λ (x : ℕ). all_bits (bit_or v x) f.runs) h.made ∙ f.made;
    }

with_two : (v c e m : ℕ) (rest : List ℕ) (w : ℕ) → run_in c e ≡ Some m → RunsFound (bit_or v m) rest w → RunsFound v (c ∷ 45 ∷ e ∷ rest) w
with_two v c e m rest w t f =
    let h = run_is c e m t in
    record {
      runs = run_of c e ∷ f.runs;
      parts = (c ∷ 45 ∷ e ∷ []) ∷ f.parts;
      spelled = ap (λ (x : List ℕ). c ∷ 45 ∷ e ∷ x) f.spelled;
      each = (two_spelled c e m h, f.each);
      made = ap (λ (x : ℕ). all_bits (bit_or v x) f.runs) h.made ∙ f.made;
    }

no_runs : (v w : ℕ) → v ≡ w → RunsFound v [] w
no_runs v w e = record { runs = []; parts = []; spelled = refl; each = tt; made = e }

runs_case : (t : Bool) (v c d e : ℕ) (cs : List ℕ) (w : ℕ) → (d == 45) ≡ t → ((u : ℕ) → runs_after u cs ≡ Some w → RunsFound u cs w) → ((u : ℕ) → runs_after u (d ∷ e ∷ cs) ≡ Some w → RunsFound u (d ∷ e ∷ cs) w) → (elim t [ true ↦ run_in c e >>= λ r. runs_after (bit_or v r) cs | false ↦ run_in c c >>= λ r. runs_after (bit_or v r) (d ∷ e ∷ cs) ]) ≡ Some w → RunsFound v (c ∷ d ∷ e ∷ cs) w
runs_case true v c d e cs w test behind next h =
    let r = bind_found (run_in c e) _ w h in
    subst (λ (x : ℕ). RunsFound v (c ∷ x ∷ e ∷ cs) w) (sym (eqb-true d 45 test)) (with_two v c e r.0 cs w r.1 (behind (bit_or v r.0) r.2))
runs_case false v c d e cs w test behind next h =
    let r = bind_found (run_in c c) _ w h in
    with_one v c r.0 (d ∷ e ∷ cs) w r.1 (next (bit_or v r.0) r.2)

runs_found : (v : ℕ) (text : List ℕ) (w : ℕ) → runs_after v text ≡ Some w → RunsFound v text w
unfolding runs_after
runs_found v [] w h = no_runs v w (some_is v w h)
runs_found v (c ∷ []) w h =
    let r = bind_found (run_in c c) _ w h in
    with_one v c r.0 [] w r.1 (no_runs (bit_or v r.0) w (some_is (bit_or v r.0) w r.2))
runs_found v (c ∷ d ∷ []) w h =
    let r = bind_found (run_in c c) _ w h in
    with_one v c r.0 (d ∷ []) w r.1 (runs_found (bit_or v r.0) (d ∷ []) w r.2)
runs_found v (c ∷ d ∷ e ∷ cs) w h = runs_case (d == 45) v c d e cs w refl (λ u k. runs_found u cs w k) (λ u k. runs_found u (d ∷ e ∷ cs) w k) h

-- a text that isn't empty has a part
pub some_parts : {A : Type 0} (P : List ℕ → A → Type 0) (parts : List (List ℕ)) (xs : List A) (c : ℕ) (cs : List ℕ) → (c ∷ cs) ≡ concat parts → Each P parts xs → 1 ≤ length xs
some_parts P [] xs c cs e h = absurd cc
some_parts P (p ∷ ps) [] c cs e h = absurd h
some_parts P (p ∷ ps) (x ∷ xs) c cs e h = omega arith

-- the class that is found in brackets
pub class_found : (text : List ℕ) (s : DigitSet) → class_in text ≡ Some s → SpellsClass (91 ∷ (text ++ (93 ∷ []))) s
class_found [] s e = absurd cc
class_found (c ∷ cs) s e =
    let v = bind_found (runs_after 0 (c ∷ cs)) _ s e in
    let f = runs_found 0 (c ∷ cs) v.0 v.1 in
    let made : record { 0 = all_bits 0 f.runs } ≡ s = ap (λ (x : ℕ). record { 0 = x }) f.made ∙ some_is _ s v.2 in
    record {
      runs = f.runs;
      parts = f.parts;
      spelled = ap (λ (t : List ℕ). 91 ∷ (t ++ (93 ∷ []))) f.spelled;
      each = f.each;
      some = some_parts SpellsRun f.parts f.runs c cs f.spelled f.each;
      is = subst (λ (x : DigitSet). IsSetOf x f.runs) made (is_set_of f.runs (runs_are_digits f.parts f.runs f.each));
    }
