-- The definitions of a plan.
use Rattle.std.specs.Prelude.{◌≡◌, ℕ, List}
use Rattle.junos_text.specs.declared.option.PolicyOption.{PolicyOption}
use Rattle.junos_plans.specs.declared.step.PlannedStep.{PlannedStep}
use Rattle.junos_layout.specs.Options.{Definitions, options_of}
use Rattle.junos_layout.specs.Uses.{NamesDefinitions, FitsDefinitions, HasFew}
use Rattle.junos_layout.specs.Writing.{Writing}

-- these are the definitions of the steps over what they name: each name that is used is that of its definition, and there are
-- few enough to be counted
pub record IsPlan (name : List ℕ) (steps : List PlannedStep) (options : List PolicyOption) : Type 0 where
  pub defs : Definitions
  pub writing : Writing
  pub written : options ≡ options_of name defs writing steps
  pub names : NamesDefinitions name defs writing steps
  pub fits : FitsDefinitions defs
  pub few : HasFew defs writing steps
