-- The parts of a word at a byte, by the place of the first such byte.
use Rattle.std.proofs.Common.{◌≡◌, refl, sym, ap, ◌∙◌, ℕ, suc, ◌+◌, ◌-◌, ◌<◌, ◌≤◌, Bool, true, false, cond, not, ltb, List, [], ◌∷◌, length, take, drop, Option, Some, None, arith, inl, inr, ◌⊎◌}
use Rattle.std.specs.Prelude.{◌==◌, option_map}
use Rattle.std.specs.List.{list_any, position, prefix_len}
use Rattle.std.proofs.lemmas.Bool.{lt-ltb, le-ltb, cases_lt, or_parts}
use Rattle.std.proofs.lemmas.List.{take_all, length-drop}
use Rattle.route_types.specs.Words.{parts_at, ◌>>=◌}

-- the parts at a place, where it lies in the word
abbrev cut_of : List ℕ → ℕ → Option (List ℕ × List ℕ)
cut_of word n = cond (ltb n (length word)) (Some (take n word, drop (n + 1) word)) None

-- one more byte in front of the first part
abbrev with_byte : ℕ → Option (List ℕ × List ℕ) → Option (List ℕ × List ℕ)
with_byte c o = o >>= λ parts. Some (c ∷ parts.0, parts.1)

cut_within : (word : List ℕ) (n : ℕ) → n < length word → cut_of word n ≡ Some (take n word, drop (n + 1) word)
cut_within word n h = rw (lt-ltb n (length word) h) refl

cut_past : (word : List ℕ) (n : ℕ) → length word ≤ n → cut_of word n ≡ None
cut_past word n h = rw (le-ltb n (length word) h) refl

longer : (c n : ℕ) (cs : List ℕ) → (take (1 + n) (c ∷ cs) ≡ c ∷ take n cs) × (drop (1 + n + 1) (c ∷ cs) ≡ drop (n + 1) cs)
longer c n cs =
    let e : 1 + n ≡ suc n = omega arith in
    let f : 1 + n + 1 ≡ suc (n + 1) = omega arith in
    (ap (λ (k : ℕ). take k (c ∷ cs)) e, ap (λ (k : ℕ). drop k (c ∷ cs)) f)

cut_more : (c n : ℕ) (cs : List ℕ) → (n < length cs) ⊎ (length cs ≤ n) → with_byte c (cut_of cs n) ≡ cut_of (c ∷ cs) (1 + n)
cut_more c n cs (inl h) =
    let l = longer c n cs in
    ap (λ (o : Option (List ℕ × List ℕ)). with_byte c o) (cut_within cs n h)
    ∙ sym (cut_within (c ∷ cs) (1 + n) (omega arith) ∙ ap (λ (x : List ℕ). Some (x, drop (1 + n + 1) (c ∷ cs))) l.0 ∙ ap (λ (y : List ℕ). Some (c ∷ take n cs, y)) l.1)
cut_more c n cs (inr h) =
    ap (λ (o : Option (List ℕ × List ℕ)). with_byte c o) (cut_past cs n h) ∙ sym (cut_past (c ∷ cs) (1 + n) (omega arith))

parts_by_length : (b : ℕ) (word : List ℕ) → parts_at b word ≡ cut_of word (prefix_len (λ x. not (x == b)) word)
unfolding parts_at
parts_by_length b [] = refl
parts_by_length b (c ∷ cs) =
    elim (c == b) as (λ t. (elim t [ true ↦ Some ([], cs) | false ↦ with_byte c (parts_at b cs) ]) ≡ cut_of (c ∷ cs) (cond (not t) (1 + prefix_len (λ x. not (x == b)) cs) 0)) [
      | true ↦ sym (cut_within (c ∷ cs) 0 (omega arith))
      | false ↦ ap (λ (o : Option (List ℕ × List ℕ)). with_byte c o) (parts_by_length b cs) ∙ cut_more c (prefix_len (λ x. not (x == b)) cs) cs (cases_lt _ _)
    ]

mapped : (t : Bool) (n : ℕ) (x : List ℕ × List ℕ) (f : ℕ → List ℕ × List ℕ) → f n ≡ x → cond t (Some x) None ≡ option_map f (cond t (Some n) None)
mapped true n x f e = ap (λ (y : List ℕ × List ℕ). Some y) (sym e)
mapped false n x f e = refl

-- the parts stand before and behind the place of the first such byte
pub parts_at_position : (b : ℕ) (word : List ℕ) → parts_at b word ≡ option_map (λ i. (take i word, drop (i + 1) word)) (position (λ c. c == b) word)
parts_at_position b word =
    let n = prefix_len (λ x. not (x == b)) word in
    parts_by_length b word ∙ mapped (ltb n (length word)) n (take n word, drop (n + 1) word) (λ i. (take i word, drop (i + 1) word)) refl

-- the two parts, as the program cuts them
pub parts_cut : (b place : ℕ) (word : List ℕ) → Some place ≡ position (λ c. c == b) word → Some (take place word, take (length word - (place + 1)) (drop (place + 1) word)) ≡ parts_at b word
parts_cut b place word e =
    ap (λ (x : List ℕ). Some (take place word, x)) (take_all (length word - (place + 1)) (drop (place + 1) word) (omega (arith, length-drop (place + 1) word)))
    ∙ ap (λ (o : Option ℕ). option_map (λ i. (take i word, drop (i + 1) word)) o) e ∙ sym (parts_at_position b word)

no_part_here : (t : Bool) (b c : ℕ) (cs : List ℕ) → t ≡ false → parts_at b cs ≡ None
    → ◌≡◌ {A = Option (List ℕ × List ℕ)} (elim t [ true ↦ Some ([], cs) | false ↦ parts_at b cs >>= λ parts. Some (c ∷ parts.0, parts.1) ]) None
no_part_here true b c cs e more = absurd cc
no_part_here false b c cs e more = ap (λ (o : Option (List ℕ × List ℕ)). o >>= λ parts. Some (c ∷ parts.0, parts.1)) more

-- a byte that stands nowhere in a word cuts no parts
pub no_parts : (b : ℕ) (word : List ℕ) → list_any (λ c. c == b) word ≡ false → parts_at b word ≡ None
unfolding parts_at
no_parts b [] h = refl
no_parts b (c ∷ cs) h = let p = or_parts (c == b) (list_any (λ x. x == b) cs) h in no_part_here (c == b) b c cs p.0 (no_parts b cs p.1)
