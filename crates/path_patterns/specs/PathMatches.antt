-- Whether items match a path, as a function (Junos OS Routing Policies User Guide, 'AS path regular
-- expressions'). `Items` states the same as a relation.
use Rattle.std.specs.Prelude.{ℕ, ◌-◌, Bool, true, false, ◌&&◌, ◌||◌, nat_le, List, [], ◌∷◌, Option, Some, None, map}
use Rattle.std.specs.List.{list_any}
use Rattle.path_patterns.specs.Items.{Takes, takes_of}
use Rattle.path_patterns.specs.declared.items.TokenPattern.{TokenPattern}

-- the path has no number
abbrev pub no_number : List ℕ → Bool
no_number [] = true
no_number (n ∷ ns) = false

-- one more may be taken
abbrev pub has_room : Option ℕ → Bool
has_room None = true
has_room (Some most) = nat_le 1 most

-- the upper end when one is taken
abbrev pub one_fewer : Option ℕ → Option ℕ
one_fewer None = None
one_fewer (Some most) = Some (most - 1)

-- numbers that fit, as many as the two ends allow, stand in front, and what stands behind them holds
unfoldable pub front_fits : (ℕ → Bool) → ℕ → Option ℕ → (List ℕ → Bool) → List ℕ → Bool
front_fits fits least most behind [] = nat_le least 0 && behind []
front_fits fits least most behind (n ∷ ns) =
    (nat_le least 0 && behind (n ∷ ns)) || (has_room most && (fits n && front_fits fits (least - 1) (one_fewer most) behind ns))

-- takes in turn take the whole path
unfoldable pub whole_path : List Takes → List ℕ → Bool
whole_path [] path = no_number path
whole_path (t ∷ ts) path = front_fits t.fits t.least t.most (λ rest. whole_path ts rest) path

-- the items of some branch take the whole path
unfoldable pub path_matches : TokenPattern → List ℕ → Bool
path_matches p path = list_any (λ b. whole_path (map takes_of b.items) path) p.branches
