-- The walks over a text cut it where the function does.
use Rattle.std.proofs.Common.{◌≡◌, refl, sym, ap, subst, ◌∙◌, ℕ, suc, ◌+◌, ◌-◌, ◌<◌, ◌≤◌, Bool, true, false, cond, ◌&&◌, List, [], ◌∷◌, length, take, drop, Option, Some, None, arith, inl, inr, ◌⊎◌}
use Rattle.std.specs.Prelude.{◌==◌, ltb}
use Rattle.std.proofs.lemmas.Bool.{lt-ltb, le-ltb, cases_lt, and_parts, eqb-true}
use Rattle.std.proofs.lemmas.List.{take_all, length-drop}
use Rattle.route_types.specs.Words.{◌>>=◌}
use Rattle.route_types.proofs.Spelled.{ap2}
use Rattle.aspath_text.specs.IosRead.{depth_behind, onto_first, parts_by, cut_at}
use Rattle.aspath_text.specs.IosWalk.{part_length, parts_behind, NextPart}

-- ---- the parts of a text

-- the first part, and the parts behind it
abbrev pub split_of : ℕ → List ℕ → ℕ → List (List ℕ)
split_of b text n = take n text ∷ parts_behind b (drop n text)

longer : (n c : ℕ) (cs : List ℕ) → (take (1 + n) (c ∷ cs) ≡ c ∷ take n cs) × (drop (1 + n) (c ∷ cs) ≡ drop n cs)
longer n c cs = let e : 1 + n ≡ suc n = omega arith in (ap (λ (k : ℕ). take k (c ∷ cs)) e, ap (λ (k : ℕ). drop k (c ∷ cs)) e)

-- one more byte in front of the first part
pub split_more : (b n c : ℕ) (cs : List ℕ) → onto_first c (split_of b cs n) ≡ split_of b (c ∷ cs) (1 + n)
split_more b n c cs =
    let l = longer n c cs in
    ap2 (λ (t u : List ℕ). t ∷ parts_behind b u) (sym l.0) (sym l.1)

at_byte : (b c d : ℕ) (cs : List ℕ) → (c == b && d == 0) ≡ true → [] ∷ parts_by b (depth_behind d c) cs ≡ [] ∷ parts_by b (depth_behind 0 b) cs
at_byte b c d cs e =
    let p = and_parts (c == b) (d == 0) e in
    ap2 (λ (x y : ℕ). [] ∷ parts_by b (depth_behind y x) cs) (eqb-true c b p.0) (eqb-true d 0 p.1)

split_case : (t : Bool) (b c d n : ℕ) (cs : List ℕ) → (c == b && d == 0) ≡ t → parts_by b (depth_behind d c) cs ≡ split_of b cs n → (elim t [ true ↦ [] ∷ parts_by b (depth_behind d c) cs | false ↦ onto_first c (parts_by b (depth_behind d c) cs) ]) ≡ split_of b (c ∷ cs) (elim t [ true ↦ 0 | false ↦ 1 + n ])
split_case true b c d n cs e more = at_byte b c d cs e
split_case false b c d n cs e more = ap (λ (ts : List (List ℕ)). onto_first c ts) more ∙ split_more b n c cs

-- the first part has the length that the walk finds
pub parts_split : (b d : ℕ) (text : List ℕ) → parts_by b d text ≡ split_of b text (part_length b d text)
unfolding parts_by part_length
parts_split b d [] = refl
parts_split b d (c ∷ cs) = split_case (c == b && d == 0) b c d (part_length b (depth_behind d c) cs) cs refl (parts_split b (depth_behind d c) cs)

-- what the program leaves behind a place
pub whole : (n : ℕ) (text : List ℕ) → take (length text - n) (drop n text) ≡ drop n text
whole n text = take_all (length text - n) (drop n text) (omega (arith, length-drop n text))

-- ---- the first cut of a text

-- the parts at a place, where it lies in the text
abbrev cut_of : List ℕ → ℕ → Option (List ℕ × List ℕ)
cut_of text n = cond (ltb n (length text)) (Some (take n text, drop (n + 1) text)) None

-- one more byte in front of the first part
abbrev with_byte : ℕ → Option (List ℕ × List ℕ) → Option (List ℕ × List ℕ)
with_byte c o = o >>= λ parts. Some (c ∷ parts.0, parts.1)

cut_within : (text : List ℕ) (n : ℕ) → n < length text → cut_of text n ≡ Some (take n text, drop (n + 1) text)
cut_within text n h = rw (lt-ltb n (length text) h) refl

cut_past : (text : List ℕ) (n : ℕ) → length text ≤ n → cut_of text n ≡ None
cut_past text n h = rw (le-ltb n (length text) h) refl

cut_more : (c n : ℕ) (cs : List ℕ) → (n < length cs) ⊎ (length cs ≤ n) → with_byte c (cut_of cs n) ≡ cut_of (c ∷ cs) (1 + n)
cut_more c n cs (inl h) =
    let l = longer n c cs in
    let e : 1 + n + 1 ≡ suc (n + 1) = omega arith in
    ap (λ (o : Option (List ℕ × List ℕ)). with_byte c o) (cut_within cs n h)
    ∙ sym (cut_within (c ∷ cs) (1 + n) (omega arith) ∙ ap2 (λ (x y : List ℕ). Some (x, y)) l.0 (ap (λ (k : ℕ). drop k (c ∷ cs)) e))
cut_more c n cs (inr h) =
    ap (λ (o : Option (List ℕ × List ℕ)). with_byte c o) (cut_past cs n h) ∙ sym (cut_past (c ∷ cs) (1 + n) (omega arith))

cut_case : (t : Bool) (c n : ℕ) (cs : List ℕ) (o : Option (List ℕ × List ℕ)) → o ≡ cut_of cs n → (elim t [ true ↦ Some ([], cs) | false ↦ with_byte c o ]) ≡ cut_of (c ∷ cs) (elim t [ true ↦ 0 | false ↦ 1 + n ])
cut_case true c n cs o more = sym (cut_within (c ∷ cs) 0 (omega arith))
cut_case false c n cs o more = ap (λ (p : Option (List ℕ × List ℕ)). with_byte c p) more ∙ cut_more c n cs (cases_lt _ _)

cut_by_length : (b d : ℕ) (text : List ℕ) → cut_at b d text ≡ cut_of text (part_length b d text)
unfolding cut_at part_length
cut_by_length b d [] = refl
cut_by_length b d (c ∷ cs) = cut_case (c == b && d == 0) c (part_length b (depth_behind d c) cs) cs (cut_at b (depth_behind d c) cs) (cut_by_length b (depth_behind d c) cs)

-- the two parts, as the program cuts them
pub cut_here : (b d n : ℕ) (text : List ℕ) → n ≡ part_length b d text → n < length text → Some (take n text, take (length text - (n + 1)) (drop (n + 1) text)) ≡ cut_at b d text
cut_here b d n text here within =
    ap (λ (x : List ℕ). Some (take n text, x)) (whole (n + 1) text)
    ∙ sym (cut_within text n within) ∙ ap (λ (m : ℕ). cut_of text m) here ∙ sym (cut_by_length b d text)

pub cut_nowhere : (b d n : ℕ) (text : List ℕ) → n ≡ part_length b d text → n ≡ length text → None ≡ cut_at b d text
cut_nowhere b d n text here end = sym (cut_past text n (omega arith)) ∙ ap (λ (m : ℕ). cut_of text m) here ∙ sym (cut_by_length b d text)

-- ---- the parts as the program takes them

-- the first part, and what stands behind it
pub first_part : (b d n : ℕ) (text : List ℕ) → n ≡ part_length b d text → parts_by b d text ≡ take n text ∷ parts_behind b (take (length text - n) (drop n text))
first_part b d n text here =
    parts_split b d text ∙ sym (ap (λ (m : ℕ). split_of b text m) here)
    ∙ sym (ap (λ (u : List ℕ). take n text ∷ parts_behind b u) (whole n text))

tail_of : (c : ℕ) (cs : List ℕ) → take (length (c ∷ cs) - 1) (drop 1 (c ∷ cs)) ≡ cs
tail_of c cs = take_all (length (c ∷ cs) - 1) cs (omega arith)

shorter : (n c : ℕ) (cs : List ℕ) → length (take (length cs - n) (drop n cs)) < length (c ∷ cs)
shorter n c cs = rw (whole n cs) (omega (arith, length-drop n cs))

-- the part behind the byte that starts the text, and what stands behind it
pub next_part : (b n : ℕ) (text tail : List ℕ) → tail ≡ take (length text - 1) (drop 1 text) → 0 < length text → n ≡ part_length b (depth_behind 0 b) tail → NextPart b text (Some (take n tail, take (length tail - n) (drop n tail)))
next_part b n [] tail is some here = absurd (omega (arith, some))
next_part b n (c ∷ cs) tail is some here =
    let e : cs ≡ tail = sym (is ∙ tail_of c cs) in
    subst (λ (u : List ℕ). NextPart b (c ∷ cs) (Some (take n u, take (length u - n) (drop n u)))) e
    (first_part b (depth_behind 0 b) n cs (here ∙ ap (λ (u : List ℕ). part_length b (depth_behind 0 b) u) (sym e)), shorter n c cs)
