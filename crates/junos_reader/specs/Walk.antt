-- The walk for the first fault: what is kept of the items before.
use Rattle.std.specs.Prelude.{◌≡◌, ℕ, List, []}
use Rattle.policy_text.specs.Causes.{first_fault_from}
use Rattle.junos_tree.specs.declared.item.JunosItem.{JunosItem}
use Rattle.junos_reader.specs.Facts.{forms_of}
use Rattle.junos_reader.specs.Profile.{span_of, rules_of}
use Rattle.junos_reader.specs.Known.{IsBehind}
use Rattle.junos_reader.specs.declared.state.State.{State}

-- the walk has come to the rest without a fault
abbrev pub IsWalking : List (List ℕ) → List JunosItem → List JunosItem → State → Type 0
IsWalking names all rest state =
    (before : List JunosItem) × IsBehind (forms_of before) state × (first_fault_from span_of (rules_of names all) before rest ≡ first_fault_from span_of (rules_of names all) [] all)
