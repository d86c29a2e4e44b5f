-- Worked examples that the checker computes.
use Rattle.std.proofs.Common.{◌≡◌, refl, ℕ, ◌+◌, ◌*◌, [], ◌∷◌, Option, Some, None}
use Rattle.route_types.specs.Community.{RectParts}
use Rattle.route_types.specs.declared.community.Community.{Community}
use Rattle.route_types.specs.declared.change.Change.TheVariants.{Prepend, Med, Communities}
use Rattle.pending_changes.specs.Pending.{set_or, communities_behind, changes_of}
use Rattle.pending_changes.specs.declared.pending.Pending.{Pending}

abbrev of : ℕ → ℕ → Community
of high low = record { 0 = high * 65536 + low }

-- the communities of one upper half
abbrev row : ℕ → RectParts
row high = record { high_least = high; high_most = high; low_least = 0; low_most = 65535 }

-- MED 7, two numbers before the path, and 65001:1 in place of all of 65001
abbrev some : Pending
some = record {
  local_preference = None;
  med = Some 7;
  weight = None;
  origin = None;
  next_hop = None;
  prepended = 65002 ∷ 65001 ∷ [];
  communities = Some (record { removed = row 65001 ∷ []; added = of 65001 1 ∷ [] });
}

-- the number that stands first is put in front last
in_order : changes_of some ≡ Med 7 ∷ Prepend 65001 ∷ Prepend 65002 ∷ Communities (record { removed = row 65001 ∷ []; added = of 65001 1 ∷ [] }) ∷ []
in_order = refl

med_set : set_or some.med 5 ≡ 7
med_set = refl

-- no value is set
abbrev unset : Option ℕ
unset = None

med_kept : set_or unset 5 ≡ 5
med_kept = refl

replaced : communities_behind some.communities (of 65001 5 ∷ of 65002 1 ∷ []) ≡ of 65001 1 ∷ of 65002 1 ∷ []
replaced = refl
