-- The lengths that `ge` and `le` behind a prefix give, in IOS prefix lists and in RPL prefix sets.
use Rattle.std.specs.Prelude.{◌≡◌, ℕ, ◌≤◌, ◌⊎◌, ◌&&◌, nat_le, List, [], ◌∷◌, Option, Some, None, codes, bytes_eq, decimal}
use Rattle.route_types.specs.Words.{◌>>=◌, when, number_in}
use Rattle.policy_text.specs.Names.{first_some}

-- what may stand behind a prefix of length n, and the least and the most length that it gives
abbrev pub SpellBounds : ℕ → List (List ℕ) → ℕ × ℕ → Type 0
SpellBounds n ws (least, most) = (n ≤ least) × (least ≤ most) × (
    ((ws ≡ []) × (least ≡ n) × (most ≡ n))
    ⊎ ((ws ≡ codes "ge" ∷ decimal least ∷ []) × (most ≡ 32))
    ⊎ ((ws ≡ codes "le" ∷ decimal most ∷ []) × (least ≡ n) × (most ≤ 32))
    ⊎ ((ws ≡ codes "ge" ∷ decimal least ∷ codes "le" ∷ decimal most ∷ []) × (most ≤ 32)))

-- the least and the most length of `ge G`, or of `le E`, behind a prefix of length n
abbrev pub one_bound_in : ℕ → List ℕ → List ℕ → Option (ℕ × ℕ)
one_bound_in n key word = do
  bound ← number_in 32 word
  first_some
      (when (bytes_eq key (codes "ge") && nat_le n bound) (bound, 32))
      (when (bytes_eq key (codes "le") && nat_le n bound) (n, bound))

-- the least and the most length that the words behind a prefix of length n give
abbrev pub bounds_in : ℕ → List (List ℕ) → Option (ℕ × ℕ)
bounds_in n [] = Some (n, n)
bounds_in n (a ∷ []) = None
bounds_in n (a ∷ b ∷ []) = one_bound_in n a b
bounds_in n (a ∷ b ∷ c ∷ []) = None
bounds_in n (a ∷ b ∷ c ∷ d ∷ []) = do
  least ← number_in 32 b
  most ← number_in 32 d
  when (bytes_eq a (codes "ge") && bytes_eq c (codes "le") && nat_le n least && nat_le least most) (least, most)
bounds_in n (a ∷ b ∷ c ∷ d ∷ e ∷ more) = None
