-- The spread of numbers one after the other, by the number that comes next.
use Rattle.std.proofs.Common.{◌≡◌, refl, sym, ap, ◌∙◌, ℕ, suc, ◌+◌, ◌-◌, ◌<◌, ◌≤◌, List, [], ◌++◌, arith}
use Rattle.std.proofs.lemmas.List.{append_assoc, append-nil}
use Rattle.path_patterns.specs.DigitRanges.{one_spread, each_spread}
use Rattle.path_patterns.specs.declared.items.NumberRange.{NumberRange}

one_more : (k a : ℕ) (runs : List NumberRange) → each_spread (suc k) a runs ≡ one_spread a runs ++ each_spread k (a + 1) runs
unfolding each_spread
one_more k a runs = refl

none_more : (a : ℕ) (runs : List NumberRange) → each_spread 0 a runs ≡ []
unfolding each_spread
none_more a runs = refl

-- there is a number below the end
each_step : (end a : ℕ) (runs : List NumberRange) → a < end → each_spread (end - a) a runs ≡ one_spread a runs ++ each_spread (end - (a + 1)) (a + 1) runs
each_step end a runs h =
    let e : end - a ≡ suc (end - (a + 1)) = omega arith in
    ap (λ (k : ℕ). each_spread k a runs) e ∙ one_more (end - (a + 1)) a runs

-- after the next number was put out, the rest is still to come
pub each_next : (end a : ℕ) (runs out new all : List NumberRange) → a < end → new ≡ out ++ one_spread a runs → out ++ each_spread (end - a) a runs ≡ all → new ++ each_spread (end - (a + 1)) (a + 1) runs ≡ all
each_next end a runs out new all h put e =
    ap (λ (x : List NumberRange). x ++ each_spread (end - (a + 1)) (a + 1) runs) put
    ∙ append_assoc out (one_spread a runs) (each_spread (end - (a + 1)) (a + 1) runs)
    ∙ ap (λ (x : List NumberRange). out ++ x) (sym (each_step end a runs h))
    ∙ e

-- behind the last number nothing is to come
pub each_end : (end a : ℕ) (runs out all : List NumberRange) → end ≤ a → out ++ each_spread (end - a) a runs ≡ all → out ≡ all
each_end end a runs out all h e =
    let z : end - a ≡ 0 = omega arith in
    sym (append-nil out) ∙ ap (λ (x : List NumberRange). out ++ x) (sym (ap (λ (k : ℕ). each_spread k a runs) z ∙ none_more a runs)) ∙ e
