-- The values of words, found one by one.
use Rattle.std.proofs.Common.{◌≡◌, refl, ap, ◌∙◌, ℕ, List, [], ◌∷◌, ◌++◌, Option, Some, None, append_assoc, append-nil, sym, subst, ◌-◌, ◌<◌, ◌≤◌, length, take, drop, get_or, arith}
use Rattle.std.proofs.lemmas.List.{take_all}
use Rattle.text_words.specs.Pieces.{texts}
use Rattle.text_words.specs.declared.statement.Word.{Word}
use Rattle.route_types.specs.Words.{◌>>=◌}
use Rattle.route_types.specs.RouteLines.{each_in}

-- the values found so far, before those that are still to be found
abbrev pub behind_found : {A : Type 0} → List A → Option (List A) → Option (List A)
behind_found found more = more >>= λ xs. Some (found ++ xs)

one_more : {A : Type 0} (found : List A) (x : A) (more : Option (List A)) → behind_found (found ++ x ∷ []) more ≡ behind_found found (more >>= λ xs. Some (x ∷ xs))
one_more found x (Some xs) = ap (λ ys. Some ys) (append_assoc found (x ∷ []) xs)
one_more found x None = refl

-- a word that has a value
found_one : {A : Type 0} (find : List ℕ → Option A) (found : List A) (x : A) (word : List ℕ) (words : List (List ℕ)) → find word ≡ Some x → behind_found (found ++ x ∷ []) (each_in find words) ≡ behind_found found (each_in find (word ∷ words))
unfolding each_in
found_one find found x word words e = rw e (one_more found x (each_in find words))

-- a word that has none
found_none : {A : Type 0} (find : List ℕ → Option A) (found : List A) (word : List ℕ) (words : List (List ℕ)) → find word ≡ None → behind_found found (each_in find (word ∷ words)) ≡ None
unfolding each_in
found_none find found word words e = rw e refl

-- ---- the steps of a walk over words

-- the first word has a value
pub first_found : {A : Type 0} (find : List ℕ → Option A) (found longer : List A) (x : A) (rest : List Word) (w : Word) (text : List ℕ) (all : Option (List A)) → 1 ≤ length rest → w ≡ get_or rest 0 w → text ≡ w.text → find text ≡ Some x → longer ≡ found ++ x ∷ []
    → behind_found found (each_in find (texts rest)) ≡ all → behind_found longer (each_in find (texts (take (length rest - 1) (drop 1 rest)))) ≡ all
first_found find found longer x [] w text all long first is value more so_far = absurd (omega arith)
first_found find found longer x (v ∷ vs) w text all long first is value more so_far =
    let tail : take (length (v ∷ vs) - 1) vs ≡ vs = take_all (length (v ∷ vs) - 1) vs (omega arith) in
    let found_it : find v.text ≡ Some x = subst (λ (t : List ℕ). find t ≡ Some x) (is ∙ ap (λ (u : Word). u.text) first) value in
    ap (λ (us : List Word). behind_found longer (each_in find (texts us))) tail
    ∙ ap (λ xs. behind_found xs (each_in find (texts vs))) more
    ∙ found_one find found x v.text (texts vs) found_it
    ∙ so_far

-- the first word has none
pub first_not_found : {A : Type 0} (find : List ℕ → Option A) (found : List A) (rest : List Word) (w : Word) (text : List ℕ) (all : Option (List A)) → 1 ≤ length rest → w ≡ get_or rest 0 w → text ≡ w.text → find text ≡ None → behind_found found (each_in find (texts rest)) ≡ all → None ≡ all
first_not_found find found [] w text all long first is value so_far = absurd (omega arith)
first_not_found {A} find found (v ∷ vs) w text all long first is value so_far =
    let none : find v.text ≡ None = subst (λ (t : List ℕ). find t ≡ None) (is ∙ ap (λ (u : Word). u.text) first) value in
    sym (found_none find found v.text (texts vs) none) ∙ so_far

-- no further word
pub all_found : {A : Type 0} (find : List ℕ → Option A) (found : List A) (rest : List Word) (all : Option (List A)) → length rest < 1 → behind_found found (each_in find (texts rest)) ≡ all → Some found ≡ all
unfolding each_in
all_found find found [] all h so_far = ap (λ xs. Some xs) (sym (append-nil found)) ∙ so_far
all_found find found (v ∷ vs) all h so_far = absurd (omega arith)
