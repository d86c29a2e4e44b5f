-- Words begin with these where there are words behind them.
use Rattle.std.proofs.Common.{◌≡◌, refl, sym, ap, ◌∙◌, ℕ, Bool, true, false, ◌&&◌, List, [], ◌∷◌, Option, Some, None}
use Rattle.std.specs.Prelude.{bytes_eq, option_map, is_some}
use Rattle.policy_text.specs.Phrases.{after}
use Rattle.ios_tree.specs.Tree.{begin_with}

key_first : (t : Bool) (ks ws : List (List ℕ)) → is_some (after ks ws) ≡ begin_with ks ws → is_some (elim t [ true ↦ after ks ws | false ↦ None ]) ≡ (t && begin_with ks ws)
key_first true ks ws more = more
key_first false ks ws more = refl

some_behind : (ks ws : List (List ℕ)) → is_some (after ks ws) ≡ begin_with ks ws
unfolding after
some_behind [] ws = refl
some_behind (k ∷ ks) [] = refl
some_behind (k ∷ ks) (w ∷ ws) = key_first (bytes_eq k w) ks ws (some_behind ks ws)

some_mapped : {A B : Type 0} (f : A → B) (o : Option A) → is_some (option_map f o) ≡ is_some o
some_mapped f (Some x) = refl
some_mapped f None = refl

pub begins_by_after : {A : Type 0} (f : A → List (List ℕ)) (o : Option A) (ks ws : List (List ℕ)) → option_map f o ≡ after ks ws → is_some o ≡ begin_with ks ws
begins_by_after f o ks ws e = sym (some_mapped f o) ∙ ap (λ (x : Option (List (List ℕ))). is_some x) e ∙ some_behind ks ws
