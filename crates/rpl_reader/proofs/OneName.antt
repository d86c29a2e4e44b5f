-- A policy in profile is one by the list of its one name.
use Rattle.std.proofs.Common.{refl, ℕ, List, [], ◌∷◌}
use Rattle.rpl_forms.specs.declared.item.RplItem.{RplItem}
use Rattle.rpl_reader.specs.Profile.{InProfile, IsPolicyOf}

pub one_name : (items : List RplItem) (name : List ℕ) → InProfile name items → IsPolicyOf items (name ∷ [])
one_name items name in_profile = record { name = name; one = refl; in_profile = in_profile }
