-- Actions as forms.
use Rattle.std.specs.Prelude.{Bool, true, false, List, [], map}
use Rattle.rpl_forms.specs.declared.item.Action.{Action}
use Rattle.rpl_forms.specs.declared.item.PolicyStatement.TheVariants.{Act}
use Rattle.rpl_forms.specs.declared.item.RplForm.{RplForm}
use Rattle.rpl_forms.specs.declared.item.RplForm.TheVariants.{Statement}

-- a statement for each action
unfoldable pub acts : List Action → List RplForm
acts xs = map (λ a. Statement (Act a)) xs

-- what follows, where it is reached
abbrev pub reached : Bool → List RplForm → List RplForm
reached true following = following
reached false following = []
