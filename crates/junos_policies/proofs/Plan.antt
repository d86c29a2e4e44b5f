-- What was made is a plan.
use Rattle.std.proofs.Common.{◌≡◌, ◌∙◌, subst, ℕ, List}
use Rattle.junos_text.specs.declared.option.PolicyOption.{PolicyOption}
use Rattle.junos_plans.specs.Fits.{FitsSteps}
use Rattle.junos_plans.specs.declared.step.PlannedStep.{PlannedStep}
use Rattle.junos_policies.specs.Options.{options_by, FewOptions}
use Rattle.junos_policies.specs.Parts.{PartsList, parts_of, definitions, written_by}
use Rattle.junos_policies.specs.Plan.{IsPlan}
use Rattle.junos_policies.proofs.Fitting.{fits_all}
use Rattle.junos_policies.proofs.Naming.{names_all}
use Rattle.junos_policies.proofs.Whole.{options_are, few_all}

-- over the parts of the steps
over_parts : (name : List ℕ) (steps : List PlannedStep) (options : List PolicyOption) → FitsSteps steps
    → options ≡ options_by name (parts_of steps) (written_by name (parts_of steps)) steps → FewOptions (parts_of steps) (written_by name (parts_of steps)) steps → IsPlan name steps options
over_parts name steps options h e few =
    let p : PartsList = parts_of steps in
    record {
      defs = definitions p;
      writing = written_by name p;
      written = e ∙ options_are name p (written_by name p) steps;
      names = names_all name steps;
      fits = fits_all steps h;
      few = few_all p (written_by name p) steps few;
    }

pub is_plan : (name : List ℕ) (steps : List PlannedStep) (options : List PolicyOption) (p : PartsList) → p ≡ parts_of steps → FitsSteps steps
    → options ≡ options_by name p (written_by name p) steps → FewOptions p (written_by name p) steps → IsPlan name steps options
is_plan name steps options p same h e few =
    over_parts name steps options h (e ∙ (λ i. options_by name (same i) (written_by name (same i)) steps)) (subst (λ (q : PartsList). FewOptions q (written_by name q) steps) same few)
