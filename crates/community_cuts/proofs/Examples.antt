-- Worked examples that the checker computes.
use Rattle.std.proofs.Common.{◌≡◌, refl, ℕ, ◌+◌, ◌*◌, [], ◌∷◌, true, false}
use Rattle.route_types.specs.Community.{RectParts}
use Rattle.route_types.specs.declared.community.Community.{Community}
use Rattle.route_types.specs.declared.community.CommChange.{CommChange}
use Rattle.community_cuts.specs.Earlier.{fitted, behind}

abbrev of : ℕ → ℕ → Community
of high low = record { 0 = high * 65536 + low }

-- the one community
abbrev point : ℕ → ℕ → RectParts
point high low = record { high_least = high; high_most = high; low_least = low; low_most = low }

-- the communities of one upper half
abbrev row : ℕ → RectParts
row high = record { high_least = high; high_most = high; low_least = 0; low_most = 65535 }

-- 65001:1 is removed, and 65002:9 added
abbrev change : CommChange
change = record { removed = point 65001 1 ∷ []; added = of 65002 9 ∷ [] }

left : behind change (of 65001 1 ∷ of 65001 5 ∷ []) ≡ of 65001 5 ∷ of 65002 9 ∷ []
left = refl

-- 65002:9 holds whatever was there, and 65001:1 never
held : fitted (point 65002 9) (behind change []) ≡ true
held = refl

gone : fitted (point 65001 1) (behind change (of 65001 1 ∷ [])) ≡ false
gone = refl

-- the removal takes a part of all of 65001: what is left of it decides
parted : fitted (row 65001) (behind change (of 65001 1 ∷ [])) ≡ false
parted = refl

still_there : fitted (row 65001) (behind change (of 65001 5 ∷ [])) ≡ true
still_there = refl
