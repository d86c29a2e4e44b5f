-- The walk over the digits and classes of a word.
use Rattle.std.proofs.Common.{◌≡◌, refl, sym, ap, ◌∙◌, ℕ, zero, suc, ◌<◌, Bool, true, false, List, [], ◌∷◌, ◌++◌, length, append_assoc, Option, Some, None, arith}
use Rattle.std.specs.Prelude.{option_map, ◌==◌}
use Rattle.std.proofs.lemmas.Bool.{eqb-true}
use Rattle.std.proofs.lemmas.List.{append-nil}
use Rattle.route_types.specs.Words.{◌>>=◌}
use Rattle.aspath_text.specs.IosRead.{set_at, sets_in}
use Rattle.aspath_text.specs.IosWalk.{sets_onto}
use Rattle.path_patterns.specs.declared.pattern.DigitSet.{DigitSet}

no_items : {A : Type 0} (xs : List A) → length xs ≡ 0 → xs ≡ []
no_items [] e = refl
no_items (x ∷ xs) e = absurd (omega (arith, e))

by_rest : (found : List DigitSet) (s : DigitSet) (o : Option (List DigitSet)) → option_map (λ ss. (found ++ s ∷ []) ++ ss) o ≡ option_map (λ ss. found ++ ss) (o >>= λ ss. Some (s ∷ ss))
by_rest found s (Some ss) = ap (λ (ts : List DigitSet). Some ts) (append_assoc found (s ∷ []) ss)
by_rest found s None = refl

onto_bind : (n : ℕ) (found : List DigitSet) (o : Option (DigitSet × List ℕ)) → ((r : DigitSet × List ℕ) → sets_onto n (found ++ r.0 ∷ []) r.1 ≡ option_map (λ ss. (found ++ r.0 ∷ []) ++ ss) (sets_in n r.1)) → (o >>= λ r. sets_onto n (found ++ r.0 ∷ []) r.1) ≡ option_map (λ ss. found ++ ss) (o >>= λ r. sets_in n r.1 >>= λ ss. Some (r.0 ∷ ss))
onto_bind n found None more = refl
onto_bind n found (Some r) more = more r ∙ by_rest found r.0 (sets_in n r.1)

onto_found : (n : ℕ) (found : List DigitSet) (text : List ℕ) → sets_onto n found text ≡ option_map (λ ss. found ++ ss) (sets_in n text)
unfolding sets_onto sets_in
onto_found n found [] = ap (λ (ss : List DigitSet). Some ss) (sym (append-nil found))
onto_found zero found (c ∷ cs) = refl
onto_found (suc n) found (c ∷ cs) = onto_bind n found (set_at (c ∷ cs)) (λ r. onto_found n (found ++ r.0 ∷ []) r.1)

from_nothing : (o : Option (List DigitSet)) → option_map (λ ss. [] ++ ss) o ≡ o
from_nothing (Some ss) = refl
from_nothing None = refl

-- the walk gives the digits and classes of the text
pub sets_by_walk : (n : ℕ) (text : List ℕ) → sets_onto n [] text ≡ sets_in n text
sets_by_walk n text = onto_found n [] text ∙ from_nothing (sets_in n text)

-- the first one goes behind those found so far
pub set_found : (n m : ℕ) (found : List DigitSet) (text : List ℕ) (s : DigitSet) (behind : List ℕ) → n ≡ suc m → 0 < length text → set_at text ≡ Some (s, behind) → sets_onto m (found ++ s ∷ []) behind ≡ sets_onto n found text
unfolding sets_onto
set_found n m found [] s behind count some e = absurd (omega (arith, some))
set_found zero m found (c ∷ cs) s behind count some e = absurd (omega (arith, count))
set_found (suc n) m found (c ∷ cs) s behind count some e =
    let k : m ≡ n = omega (arith, count) in
    rw (e, k) refl

-- where none stands first, the walk ends
pub set_none : (n : ℕ) (found : List DigitSet) (text : List ℕ) → 0 < length text → set_at text ≡ None → sets_onto n found text ≡ None
unfolding sets_onto
set_none n found [] some e = absurd (omega (arith, some))
set_none zero found (c ∷ cs) some e = refl
set_none (suc n) found (c ∷ cs) some e = rw e refl

-- at the end of the text the walk has found them all
pub sets_end : (n : ℕ) (found : List DigitSet) (text : List ℕ) → length text ≡ 0 → sets_onto n found text ≡ Some found
unfolding sets_onto
sets_end n found [] e = refl
sets_end n found (c ∷ cs) e = absurd (omega (arith, e))

-- no more of them are allowed
pub sets_many : (n : ℕ) (found : List DigitSet) (text : List ℕ) → n ≡ 0 → 0 < length text → sets_onto n found text ≡ None
unfolding sets_onto
sets_many n found [] none some = absurd (omega (arith, some))
sets_many zero found (c ∷ cs) none some = refl
sets_many (suc n) found (c ∷ cs) none some = absurd (omega (arith, none))

-- ---- what the program meets

-- a list that was tested to be empty
pub is_empty_then : {A : Type 0} (xs : List A) (t : Bool) → t ≡ (length xs == 0) → t ≡ true → length xs ≡ 0
is_empty_then xs t told e = eqb-true (length xs) 0 (sym told ∙ e)

pub not_empty_then : {A : Type 0} (xs : List A) (t : Bool) → t ≡ (length xs == 0) → t ≡ false → 0 < length xs
not_empty_then [] t told e = absurd (let k : true ≡ false = sym told ∙ e in cc)
not_empty_then (x ∷ xs) t told e = omega arith

pub all_found : (n : ℕ) (found : List DigitSet) (rest text : List ℕ) → length rest ≡ 0 → sets_onto n found rest ≡ sets_onto 10 [] text → sets_in 10 text ≡ Some found
all_found n found rest text e walked = sym (sets_by_walk 10 text) ∙ sym walked ∙ sets_end n found rest e

pub one_missing : (n : ℕ) (found : List DigitSet) (rest text : List ℕ) → 0 < length rest → set_at rest ≡ None → sets_onto n found rest ≡ sets_onto 10 [] text → sets_in 10 text ≡ None
one_missing n found rest text some e walked = sym (sets_by_walk 10 text) ∙ sym walked ∙ set_none n found rest some e

pub too_many : (n : ℕ) (found : List DigitSet) (rest text : List ℕ) → n ≡ 0 → 0 < length rest → sets_onto n found rest ≡ sets_onto 10 [] text → sets_in 10 text ≡ None
too_many n found rest text e some walked = sym (sets_by_walk 10 text) ∙ sym walked ∙ sets_many n found rest e some
