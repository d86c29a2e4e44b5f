-- Takes that tell no difference on numbers of 32 bits.
use Rattle.std.specs.Prelude.{◌≡◌, ℕ, ◌<◌, ◌^◌, List, [], ◌∷◌}
use Rattle.path_patterns.specs.Items.{Takes}

-- both take as many numbers, and the same ones
pub record SameTake (t u : Takes) : Type 0 where
  pub least : t.least ≡ u.least
  pub most : t.most ≡ u.most
  pub fits : (n : ℕ) → n < 2 ^ 32 → t.fits n ≡ u.fits n

-- there are as many of them, the same at each place
abbrev pub SameTakes : List Takes → List Takes → Type 0
SameTakes [] [] = Unit {0}
SameTakes [] (u ∷ us) = ⊥
SameTakes (t ∷ ts) [] = ⊥
SameTakes (t ∷ ts) (u ∷ us) = SameTake t u × SameTakes ts us
