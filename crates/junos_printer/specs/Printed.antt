-- What a printed text is, and the definitions that it is made of.
use Rattle.std.specs.Prelude.{◌≡◌, ℕ, List, [], ◌∷◌, Some}
use Rattle.std.specs.List.{AllByRecursion}
use Rattle.route_types.specs.Route.{RouteParts, InRange}
use Rattle.policy_core.specs.Guards.{outcome_of}
use Rattle.policy_core.specs.declared.step.Step.{Step}
use Rattle.junos_tree.specs.Tree.{junos_tree}
use Rattle.junos_tree.specs.declared.item.JunosForm.{JunosForm}
use Rattle.junos_tree.specs.declared.item.JunosItem.{JunosItem}
use Rattle.junos_reader.specs.Facts.{forms_of as forms_in}
use Rattle.junos_reader.specs.Profile.{InProfile}
use Rattle.junos_meaning.specs.Meaning.{junos_meaning}
use Rattle.junos_text.specs.Layout.{forms_of, text_of}
use Rattle.junos_text.specs.Written.{MayBeWritten, forms}
use Rattle.junos_text.specs.declared.option.PolicyOption.{PolicyOption}
use Rattle.junos_writable.specs.Names.{IsOwnName, NamesOwn, names_of}

-- what forms define, and what they name, has the policy's name, or stands under it with `-` and more behind it
pub record AreOwn (name : List ℕ) (fs : List JunosForm) : Type 0 where
  pub defined : AllByRecursion (IsOwnName name) (names_of fs)
  pub named : AllByRecursion (NamesOwn name) fs

-- the definitions may be written; any tree of them has the policy of this name in profile; their meaning gives every route in
-- range the outcome of the steps; and all that they define and name is the policy's own
pub record SaySteps (name : List ℕ) (steps : List Step) (os : List PolicyOption) : Type 0 where
  pub written : MayBeWritten os
  pub profile : (items : List JunosItem) → forms items ≡ forms_of os → InProfile (name ∷ []) items
  pub meaning : (r : RouteParts) → InRange r → junos_meaning (forms_of os) (name ∷ []) r ≡ outcome_of steps r
  pub own : AreOwn name (forms_of os)

-- the text reads as a tree in which the policy of this name is in profile, its meaning gives every route in range the outcome
-- of the steps, all that it defines and names is the policy's own, and it is nothing but a block of definitions
pub record Prints (name : List ℕ) (steps : List Step) (text : List ℕ) : Type 0 where
  pub items : List JunosItem
  pub tree : junos_tree text ≡ Some items
  pub profile : InProfile (name ∷ []) items
  pub meaning : (r : RouteParts) → InRange r → junos_meaning (forms_in items) (name ∷ []) r ≡ outcome_of steps r
  pub own : AreOwn name (forms_in items)
  pub options : List PolicyOption
  pub layout : text ≡ text_of options
