-- What a printed text is, and the forms that it is made of.
use Rattle.std.specs.Prelude.{◌≡◌, ℕ, List, Some}
use Rattle.std.specs.List.{AllByRecursion}
use Rattle.route_types.specs.Route.{RouteParts, InRange}
use Rattle.policy_core.specs.Guards.{outcome_of}
use Rattle.policy_core.specs.declared.step.Step.{Step}
use Rattle.rpl_forms.specs.declared.item.RplForm.{RplForm}
use Rattle.rpl_forms.specs.declared.item.RplItem.{RplItem}
use Rattle.rpl_tree.specs.Tree.{forms, rpl_tree}
use Rattle.rpl_reader.specs.Profile.{InProfile}
use Rattle.rpl_meaning.specs.Meaning.{rpl_meaning}
use Rattle.rpl_text.specs.Blocks.{names_of}
use Rattle.rpl_text.specs.Written.{MayBeWritten}
use Rattle.rpl_writable.specs.Names.{IsOwnName}
use Rattle.rpl_printer.specs.Own.{TouchesItsOwn}

-- the forms may be written; any tree of them has the policy of this name in profile; their meaning gives every route in range
-- the outcome of the steps; and each block is the policy's own
pub record SaySteps (name : List ℕ) (steps : List Step) (fs : List RplForm) : Type 0 where
  pub written : MayBeWritten fs
  pub profile : (items : List RplItem) → forms items ≡ fs → InProfile name items
  pub meaning : (r : RouteParts) → InRange r → rpl_meaning fs name r ≡ outcome_of steps r
  pub own : AllByRecursion (IsOwnName name) (names_of fs)

-- the text reads as a tree in which the policy of this name is in profile, its meaning gives every route in range the outcome
-- of the steps, and the text touches no name but the policy's own
pub record Prints (name : List ℕ) (steps : List Step) (text : List ℕ) : Type 0 where
  pub items : List RplItem
  pub tree : rpl_tree text ≡ Some items
  pub profile : InProfile name items
  pub meaning : (r : RouteParts) → InRange r → rpl_meaning (forms items) name r ≡ outcome_of steps r
  pub own : TouchesItsOwn name text
