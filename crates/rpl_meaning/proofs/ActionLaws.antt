-- What is put before a path.
use Rattle.std.proofs.Common.{◌≡◌, refl, ap, ◌∙◌, ℕ, zero, suc, List, ◌∷◌, ◌++◌}
use Rattle.route_types.specs.Route.{RouteParts}
use Rattle.rpl_effects.specs.Changes.{repeated_before}
use Rattle.rpl_meaning.specs.Meaning.{repeated}

numbers_before : (n count : ℕ) (path : List ℕ) → repeated_before n count path ≡ repeated n count ++ path
unfolding repeated_before repeated
numbers_before n zero path = refl
numbers_before n (suc k) path = ap (λ (ns : List ℕ). n ∷ ns) (numbers_before n k path)

pub put_before : (n m count k : ℕ) → n ≡ m → count ≡ k → (r : RouteParts) → record r { path = repeated_before n count r.path } ≡ record r { path = repeated m k ++ r.path }
put_before n m count k same times r =
    ap (λ (path : List ℕ). record r { path = path }) (numbers_before n count r.path ∙ ap (λ (x : ℕ). repeated x count ++ r.path) same ∙ ap (λ (x : ℕ). repeated m x ++ r.path) times)
