-- The values of parts, the first of which is read before the others.
use Rattle.std.proofs.Common.{◌≡◌, refl, sym, ap, ◌∙◌, subst, ℕ, ◌-◌, List, [], ◌∷◌, ◌++◌, length, take, drop, Option, Some, None, Result, Err}
use Rattle.policy_text.specs.Phrases.{each, each_onto}
use Rattle.policy_text.proofs.Phrases.{each_by_walk}
use Rattle.aspath_text.specs.IosRead.{depth_behind, onto_first, set_in, tail_in, tailed, tailed_in}
use Rattle.aspath_text.specs.IosWalk.{part_length, parts_behind, set_length}
use Rattle.aspath_text.specs.Printing.{Reads}
use Rattle.aspath_text.specs.declared.fault.PatternFault.{PatternFault}
use Rattle.aspath_text.specs.declared.fault.PatternFault.TheVariants.{NotShaped, Memory}
use Rattle.path_patterns.specs.declared.pattern.DigitWord.{DigitWord}
use Rattle.path_patterns.specs.declared.pattern.Piece.TheVariants.{Set}
use Rattle.path_patterns.specs.declared.pattern.Tail.{Tail}
use Rattle.aspath_text.proofs.IosReadCuts.{split_of, split_more, parts_split, whole}

-- a fault of a part is a fault of the whole
pub reads_fault : {A B : Type 0} (o : Option A) (p : Option B) (fault : PatternFault) → (o ≡ None → p ≡ None) → Reads o (Err fault) → Reads p (Err fault)
reads_fault o p NotShaped none h = none h
reads_fault o p Memory none h = tt

first_none : {A : Type 0} (f : List ℕ → Option A) (p : List ℕ) (rest : List (List ℕ)) → f p ≡ None → each f (p ∷ rest) ≡ None
unfolding each
first_none f p rest e = rw e refl

-- where the first part has no value, the parts have none
pub parts_fault : {A : Type 0} (f : List ℕ → Option A) (ps : List (List ℕ)) (p : List ℕ) (rest : List (List ℕ)) (fault : PatternFault) → ps ≡ p ∷ rest → Reads (f p) (Err fault) → Reads (each f ps) (Err fault)
parts_fault f ps p rest fault is h =
    reads_fault (f p) (each f ps) fault (λ (e : f p ≡ None). ap (λ (qs : List (List ℕ)). each f qs) is ∙ first_none f p rest e) h

first_some : {A : Type 0} (f : List ℕ → Option A) (p : List ℕ) (rest : List (List ℕ)) (x : A) → f p ≡ Some x → each_onto f ([] ++ x ∷ []) rest ≡ each_onto f [] (p ∷ rest)
unfolding each_onto
first_some f p rest x e = rw e refl

-- the other parts behind the first
pub parts_read : {A : Type 0} (f : List ℕ → Option A) (ps : List (List ℕ)) (p : List ℕ) (rest : List (List ℕ)) (x : A) (before found : List A) (r : Result (List A) PatternFault) → ps ≡ p ∷ rest → f p ≡ Some x → before ≡ [] → found ≡ before ++ x ∷ [] → Reads (each_onto f found rest) r → Reads (each f ps) r
parts_read {A} f ps p rest x before found r is e none all h =
    let k : each_onto f found rest ≡ each f ps =
    ap (λ (xs : List A). each_onto f xs rest) (all ∙ ap (λ (xs : List A). xs ++ x ∷ []) none)
    ∙ first_some f p rest x e ∙ each_by_walk f (p ∷ rest) ∙ sym (ap (λ (qs : List (List ℕ)). each f qs) is) in
    subst (λ (o : Option (List A)). Reads o r) k h

-- ---- a set and its tails

tailed_split : (n : ℕ) (text : List ℕ) → n ≡ set_length text → tailed_in text ≡ tailed (take n text ∷ parts_behind 40 (take (length text - n) (drop n text)))
unfolding set_in
tailed_split n [] here = rw here refl
tailed_split n (c ∷ cs) here =
    let m = part_length 40 (depth_behind 0 c) cs in
    ap (λ (ts : List (List ℕ)). tailed ts)
    (ap (λ (ts : List (List ℕ)). onto_first c ts) (parts_split 40 (depth_behind 0 c) cs) ∙ split_more 40 m c cs
    ∙ sym (ap (λ (k : ℕ). split_of 40 (c ∷ cs) k) here)
    ∙ sym (ap (λ (u : List ℕ). take n (c ∷ cs) ∷ parts_behind 40 u) (whole n (c ∷ cs))))

-- where the set has no words, there is no piece
pub no_set : (n : ℕ) (text : List ℕ) (fault : PatternFault) → n ≡ set_length text → Reads (set_in (take n text)) (Err fault) → Reads (tailed_in text) (Err fault)
no_set n text fault here h =
    reads_fault (set_in (take n text)) (tailed_in text) fault (λ (e : set_in (take n text) ≡ None). tailed_split n text here ∙ rw e refl) h

-- where a tail is none, there is no piece
pub no_tails : (n : ℕ) (text : List ℕ) (ws : List DigitWord) (fault : PatternFault) → n ≡ set_length text → set_in (take n text) ≡ Some ws → Reads (each tail_in (parts_behind 40 (take (length text - n) (drop n text)))) (Err fault) → Reads (tailed_in text) (Err fault)
no_tails n text ws fault here set h =
    let rest = parts_behind 40 (take (length text - n) (drop n text)) in
    reads_fault (each tail_in rest) (tailed_in text) fault (λ (e : each tail_in rest ≡ None). tailed_split n text here ∙ rw (set, e) refl) h

-- the set and its tails make a piece
pub set_and_tails : (n : ℕ) (text : List ℕ) (ws : List DigitWord) (ts : List Tail) → n ≡ set_length text → set_in (take n text) ≡ Some ws → each tail_in (parts_behind 40 (take (length text - n) (drop n text))) ≡ Some ts → tailed_in text ≡ Some (Set (record { words = ws; tails = ts }))
set_and_tails n text ws ts here set e = tailed_split n text here ∙ rw (set, e) refl
