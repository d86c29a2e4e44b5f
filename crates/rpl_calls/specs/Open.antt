-- What is kept of the policy that is open.
use Rattle.std.specs.Prelude.{◌≡◌, ℕ, List, Option, Some, None}
use Rattle.name_maps.specs.Under.{under}
use Rattle.rpl_forms.specs.declared.item.RplForm.{RplForm}
use Rattle.rpl_calls.specs.Policies.{parameters_in, place_of}
use Rattle.rpl_calls.specs.declared.policies.Open.{Open}

-- the first line, and the places of its parameters
pub record IsOpenAt (line : RplForm) (o : Open) : Type 0 where
  pub line_is : o.line.now ≡ line
  pub places : (x : List ℕ) → under o.places.entries x ≡ place_of (parameters_in line) x

-- a policy is open with this first line, or none is
abbrev pub IsOpen : Option RplForm → Option Open → Type 0
IsOpen None None = Unit {0}
IsOpen (Some line) (Some o) = IsOpenAt line o
IsOpen _ _ = ⊥
