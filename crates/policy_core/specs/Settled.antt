-- Where no test follows a change.
use Rattle.std.specs.Prelude.{◌≡◌, ℕ, Bool, true, false, ◌&&◌, List}
use Rattle.core_nodes.specs.declared.node.NodeKind.{NodeKind}
use Rattle.core_nodes.specs.declared.node.NodeKind.TheVariants.{Test, Do, Stop}
use Rattle.policy_core.specs.Fold.{fold_at}

-- what comes from a node on: no test at all; no test behind a change
pub record Tested : Type 0 where
  pub untested : Bool
  pub settled : Bool

-- the same of a node, from that of its children: what stands behind a change has no test
abbrev pub tested_by : (ℕ → Tested) → NodeKind → Tested
tested_by child (Test a met unmet) = record { untested = false; settled = (child met).settled && (child unmet).settled }
tested_by child (Do c next) = record { untested = (child next).untested; settled = (child next).untested }
tested_by child (Stop accept) = record { untested = true; settled = true }

abbrev pub tested_at : List NodeKind → ℕ → Tested
tested_at nodes p = fold_at (record { untested = false; settled = false }) tested_by nodes p

-- from the place on there is no test
abbrev pub IsUntested : List NodeKind → ℕ → Type 0
IsUntested nodes p = (tested_at nodes p).untested ≡ true

-- from the place on no test follows a change
abbrev pub IsSettled : List NodeKind → ℕ → Type 0
IsSettled nodes p = (tested_at nodes p).settled ≡ true
