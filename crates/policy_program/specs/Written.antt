-- What is written of a checked route-map: a text that says what it does, or the first construct that can't be said.
use Rattle.std.specs.Prelude.{◌≡◌, ℕ, true, List, Some, Ok, Err, Result, Vec}
use Rattle.std.specs.List.{list_all}
use Rattle.std.specs.declared.alloc.Global.{Global}
use Rattle.route_types.specs.Route.{RouteParts, InRange}
use Rattle.ios_tree.specs.Tree.{ios_tree}
use Rattle.ios_reader.specs.Profile.{PolicyParts, IsPolicyOf}
use Rattle.ios_meaning.specs.Meaning.{ios_meaning, name_of}
use Rattle.policy_core.specs.Guards.{outcome_of, step_says}
use Rattle.policy_core.specs.Sayable.{rpl_atom, rpl_change}
use Rattle.policy_core.specs.declared.step.Step.{Step}
use Rattle.expressible_table.specs.Constructs.{constructs_of}
use Rattle.expressible_table.specs.Missing.{AllGranted, IsFirstMissing}
use Rattle.expressible_table.specs.declared.kind.Dialect.TheVariants.{Rpl}
use Rattle.expressible_table.specs.declared.policy.Policy.{Policy}
use Rattle.expressible_table.specs.declared.policy.Policy.TheVariants.{Ios}
use Rattle.rpl_forms.specs.declared.item.RplItem.{RplItem}
use Rattle.rpl_tree.specs.Tree.{forms, rpl_tree}
use Rattle.rpl_reader.specs.Profile.{InProfile}
use Rattle.rpl_meaning.specs.Meaning.{rpl_meaning}
use Rattle.rpl_printer.specs.Own.{TouchesItsOwn}
use Rattle.policy_program.specs.declared.translation.TranslateFault.{TranslateFault}
use Rattle.policy_program.specs.declared.translation.TranslateFault.TheVariants.{Inexpressible, Memory}

-- a checked route-map of a text
pub record IsOfText (policy : PolicyParts) : Type 0 where
  pub text : List ℕ
  pub read : policy.items ≡ ios_tree text
  pub checked : IsPolicyOf policy.items policy.names

-- what the table lists as a policy, as its reader gave it
abbrev pub parts_of : Policy → PolicyParts
parts_of (Ios policy) = policy

-- steps give every route in range what the checked route-map does, and RPL can say their tests and changes
pub record HasSteps (policy : PolicyParts) (steps : List Step) : Type 0 where
  pub same : (r : RouteParts) → InRange r → outcome_of steps r ≡ ios_meaning policy.items (name_of policy) r
  pub sayable : list_all (step_says rpl_atom rpl_change) steps ≡ true

-- the text reads in RPL as a tree in which the name is in profile, gives every route in range what the checked route-map does,
-- and touches nothing of others
pub record Says (policy : PolicyParts) (name text : List ℕ) : Type 0 where
  pub written : List RplItem
  pub tree : rpl_tree text ≡ Some written
  pub profile : InProfile name written
  pub same : (r : RouteParts) → InRange r → rpl_meaning (forms written) name r ≡ ios_meaning policy.items (name_of policy) r
  pub own : TouchesItsOwn name text

-- what comes of writing a policy under a name
abbrev pub WritesPolicy : Policy → List ℕ → Result (Vec ℕ Global) TranslateFault → Type 0
WritesPolicy policy name (Ok text) = AllGranted Rpl (constructs_of policy) × Says (parts_of policy) name text.items
WritesPolicy policy name (Err (Inexpressible span kind)) = IsFirstMissing Rpl (constructs_of policy) (record { kind = kind; span = span })
WritesPolicy policy name (Err Memory) = Unit {0}
WritesPolicy policy name (Err _) = ⊥
