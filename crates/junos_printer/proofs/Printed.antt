-- The text of the definitions of a plan prints the steps that were planned.
use Rattle.std.proofs.Common.{◌≡◌, refl, sym, ap, subst, ◌∙◌, ℕ, List, [], ◌∷◌, Option, Some, None}
use Rattle.std.specs.Prelude.{option_map}
use Rattle.std.proofs.lemmas.Option.{same_Some}
use Rattle.route_types.specs.Route.{RouteParts, InRange}
use Rattle.policy_core.specs.Guards.{outcome_of}
use Rattle.policy_core.specs.declared.step.Step.{Step}
use Rattle.junos_tree.specs.Tree.{junos_tree}
use Rattle.junos_tree.specs.declared.item.JunosForm.{JunosForm}
use Rattle.junos_tree.specs.declared.item.JunosItem.{JunosItem}
use Rattle.junos_reader.specs.Facts.{forms_of as forms_in}
use Rattle.junos_meaning.specs.Meaning.{junos_meaning}
use Rattle.junos_text.specs.Layout.{forms_of, text_of}
use Rattle.junos_text.specs.Written.{FitsName, MayBeWritten, forms}
use Rattle.junos_text.specs.declared.option.PolicyOption.{PolicyOption}
use Rattle.junos_plans.specs.Conditions.{condition_holds}
use Rattle.junos_plans.specs.Fits.{FitsSteps}
use Rattle.junos_plans.specs.Plans.{planned_outcome}
use Rattle.junos_plans.specs.declared.step.PlannedStep.{PlannedStep}
use Rattle.junos_layout.proofs.InProfile.{plan_in_profile}
use Rattle.junos_layout.proofs.Meaning.{plan_means}
use Rattle.junos_policies.specs.Plan.{IsPlan}
use Rattle.junos_writable.proofs.OwnNames.{forms_same, own_names}
use Rattle.junos_writable.proofs.TermLaws.{plan_writable}
use Rattle.junos_writable.proofs.UsedNames.{used_names}
use Rattle.junos_printer.specs.Printed.{AreOwn, SaySteps, Prints}

-- a tree that says some forms is there
tree_of : (o : Option (List JunosItem)) (fs : List JunosForm) → option_map forms o ≡ Some fs → (items : List JunosItem) × (o ≡ Some items) × (forms items ≡ fs)
tree_of None fs e = absurd cc
tree_of (Some items) fs e = (items, refl, same_Some (forms items) fs e)

-- the definitions of a plan that fits say the steps that were planned
plan_says : (name : List ℕ) (steps : List Step) (planned : List PlannedStep) (os : List PolicyOption) → FitsName name → FitsSteps planned
    → ((r : RouteParts) → InRange r → planned_outcome (condition_holds r) planned r ≡ outcome_of steps r) → IsPlan name planned os → SaySteps name steps os
plan_says name steps planned os heads fit same is =
    let defs = is.defs in
    let w = is.writing in
    record {
      written = subst MayBeWritten (sym is.written) (plan_writable name defs w planned heads is.few is.fits fit is.names);
      profile = λ items says.
          plan_in_profile name defs w planned items (sym (forms_same items) ∙ says ∙ ap forms_of is.written) is.few is.fits fit is.names;
      meaning = λ r range.
          ap (λ (xs : List PolicyOption). junos_meaning (forms_of xs) (name ∷ []) r) is.written
          ∙ plan_means name defs w planned is.few is.fits fit is.names r range
          ∙ same r range;
      own = subst (λ (xs : List PolicyOption). AreOwn name (forms_of xs)) (sym is.written) (record { defined = own_names name defs w planned; named = used_names name defs w planned is.names });
    }

-- the same of planned steps that are lent
pub lent_plan_says : (name : List ℕ) (steps : List Step) (planned lent : List PlannedStep) (os : List PolicyOption) → FitsName name → FitsSteps planned
    → ((r : RouteParts) → InRange r → planned_outcome (condition_holds r) planned r ≡ outcome_of steps r) → lent ≡ planned → IsPlan name lent os → SaySteps name steps os
lent_plan_says name steps planned lent os heads fit same e is = plan_says name steps planned os heads fit same (subst (λ (ss : List PlannedStep). IsPlan name ss os) e is)

-- the text of definitions that say steps prints them
pub printed : (name text : List ℕ) (steps : List Step) (os lent : List PolicyOption) → SaySteps name steps os → lent ≡ os → text ≡ text_of lent
    → option_map forms (junos_tree text) ≡ Some (forms_of lent) → Prints name steps text
printed name text steps os lent say same spelled read =
    let found = tree_of (junos_tree text) (forms_of lent) read in
    let says : forms found.0 ≡ forms_of os = found.2 ∙ ap forms_of same in
    let seen : forms_in found.0 ≡ forms_of os = sym (forms_same found.0) ∙ says in
    record {
      items = found.0;
      tree = found.1;
      profile = say.profile found.0 says;
      meaning = λ r range. ap (λ (gs : List JunosForm). junos_meaning gs (name ∷ []) r) seen ∙ say.meaning r range;
      own = subst (λ (gs : List JunosForm). AreOwn name gs) (sym seen) say.own;
      options = lent;
      layout = spelled;
    }
