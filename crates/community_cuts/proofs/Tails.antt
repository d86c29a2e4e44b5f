-- What a loop over a list goes on with.
use Rattle.std.proofs.Common.{◌≡◌, refl, sym, ap, ◌∙◌, ℕ, ◌-◌, ◌≤◌, List, [], ◌∷◌, length, get_or, take, drop, arith}
use Rattle.std.proofs.lemmas.List.{take_all}

-- the first element and the others
pub tail_is : {A : Type 0} (rest : List A) (x : A) (m : ℕ) → 1 ≤ length rest → x ≡ get_or rest 0 x → m ≡ length rest - 1 → rest ≡ x ∷ take m (drop 1 rest)
tail_is {A} [] x m h e f = absurd (omega (arith, h))
tail_is {A} (y ∷ ys) x m h e f = ap (λ (z : A). z ∷ ys) (sym e) ∙ ap (λ (z : List A). x ∷ z) (sym (take_all m ys (omega (arith, f))))

-- nothing is left
pub none_ahead : {A : Type 0} (rest : List A) → length rest ≤ 0 → rest ≡ []
none_ahead {A} [] h = refl
none_ahead {A} (x ∷ xs) h = absurd (omega (arith, h))
