-- What the code loads, and how its faults say why a source does not load.
use Rattle.std.specs.Prelude.{◌≡◌, ℕ, List, [], ◌∷◌}
use Rattle.text_words.specs.declared.fault.TextFault.{TextFault}
use Rattle.text_words.specs.declared.fault.TextFault.TheVariants as unread
use Rattle.policy_text.specs.declared.fault.CheckFault.{CheckFault}
use Rattle.policy_text.specs.declared.fault.CheckFault.TheVariants as unchecked
use Rattle.ios_tree.specs.Tree.{ios_tree}
use Rattle.ios_reader.specs.Profile.{PolicyParts as IosParts}
use Rattle.ios_meaning.specs.Meaning as ios
use Rattle.rpl_meaning.specs.Meaning as rpl
use Rattle.policy_sources.specs.Source.{Taken, Source, Policy, OfIos, OfJunos, OfRpl, Loaded, Broken, NoPolicy, Outside, Loads, ios_source}
use Rattle.policy_sources.specs.declared.loads.LoadFault.{LoadFault}
use Rattle.policy_sources.specs.declared.loads.LoadFault.TheVariants as unloaded
use Rattle.policy_sources.specs.declared.loads.LoadedPolicy.{LoadedPolicy}
use Rattle.policy_sources.specs.declared.loads.LoadedPolicy.TheVariants as policy_in

-- what a fault of a load says of its source; want of memory says nothing
abbrev pub FailsToLoad : Taken → Source → LoadFault → Type 0
FailsToLoad taken source (unloaded.Broken span kind) = Loads taken source (Broken span kind)
FailsToLoad taken source (unloaded.NoPolicy place) = Loads taken source (NoPolicy place)
FailsToLoad taken source (unloaded.Outside span cause) = Loads taken source (Outside span cause)
FailsToLoad taken source unloaded.Memory = Unit {0}

-- the fault of a load that a fault of the reading or of the check is
abbrev pub fault_of_text : TextFault → LoadFault
fault_of_text (unread.Broken span kind) = unloaded.Broken span kind
fault_of_text unread.Memory = unloaded.Memory

abbrev pub fault_of_check : CheckFault → LoadFault
fault_of_check (unchecked.NoPolicy place) = unloaded.NoPolicy place
fault_of_check (unchecked.Outside span cause) = unloaded.Outside span cause
fault_of_check unchecked.Memory = unloaded.Memory

-- the policy of this name in an IOS text, read and checked
pub record IsLoaded (taken : Taken) (text policy : List ℕ) (checked : IosParts) : Type 0 where
  pub is : checked ≡ record { items = ios_tree text; names = policy ∷ [] }
  pub loads : Loads taken (ios_source policy text) (Loaded (OfIos (ios_tree text) policy))

-- the policy that the code has loaded
abbrev pub policy_of : LoadedPolicy → Policy
policy_of (policy_in.Ios checked) = OfIos checked.items (ios.name_of checked)
policy_of (policy_in.Junos checked) = OfJunos checked.items checked.names
policy_of (policy_in.Rpl checked) = OfRpl checked.items (rpl.name_of checked)
