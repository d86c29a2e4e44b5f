-- What a fault of the check says.
use Rattle.std.specs.Prelude.{◌≡◌, ℕ, Bool, true, false, List, Some}
use Rattle.policy_text.specs.declared.fault.CheckFault.{CheckFault}
use Rattle.policy_text.specs.declared.fault.CheckFault.TheVariants.{NoPolicy, Outside, Memory}
use Rattle.ios_reader.specs.Profile.{is_defined, first_fault_within}
use Rattle.ios_tree.specs.declared.item.IosForm.{IosForm}
use Rattle.ios_tree.specs.declared.item.IosItem.{IosItem}

-- the fault is the one of the policy of this name, for a caller who takes these forms; want of memory says nothing of it
abbrev pub IsCheckFault : (IosForm → Bool) → List ℕ → List IosItem → CheckFault → Type 0
IsCheckFault taken name all (NoPolicy place) = (place ≡ 0) × (is_defined name all ≡ false)
IsCheckFault taken name all (Outside span cause) = (is_defined name all ≡ true) × (first_fault_within taken name all ≡ Some (span, cause))
IsCheckFault taken name all Memory = Unit {0}
