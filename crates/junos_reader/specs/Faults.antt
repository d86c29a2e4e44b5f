-- What a fault of the check says.
use Rattle.std.specs.Prelude.{◌≡◌, ℕ, ◌+◌, Bool, true, false, List, [], ◌∷◌, Option, Some, None}
use Rattle.std.specs.List.{list_all}
use Rattle.policy_text.specs.declared.fault.CheckFault.{CheckFault}
use Rattle.policy_text.specs.declared.fault.CheckFault.TheVariants.{NoPolicy, Outside, Memory}
use Rattle.junos_tree.specs.declared.item.JunosItem.{JunosItem}
use Rattle.junos_reader.specs.Profile.{is_defined, first_fault}

-- the place of the first of these names under which no policy-statement stands, the first of them being at this place
unfoldable pub undefined_from : List JunosItem → ℕ → List (List ℕ) → Option ℕ
undefined_from all place [] = None
undefined_from all place (n ∷ ns) = elim (is_defined all n) [ true ↦ undefined_from all (place + 1) ns | false ↦ Some place ]

-- the fault is the one of the chain of these names: the place of the first that is not defined, or, where all are, the
-- first fault; want of memory says nothing of it
abbrev pub IsCheckFault : List (List ℕ) → List JunosItem → CheckFault → Type 0
IsCheckFault names all (NoPolicy place) = undefined_from all 0 names ≡ Some place
IsCheckFault names all (Outside span cause) = (list_all (is_defined all) names ≡ true) × (first_fault names all ≡ Some (span, cause))
IsCheckFault names all Memory = Unit {0}
