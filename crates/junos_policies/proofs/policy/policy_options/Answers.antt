use Rattle.std.proofs.Common.{sym, subst}
use Rattle.std.specs.List.{AllByRecursion}
use Rattle.junos_plans.specs.Fits.{FitsText}
use Rattle.junos_policies.specs.Parts.{PartsList}
use Rattle.junos_policies.proofs.Fitting.{paths_fit}
use Rattle.junos_policies.proofs.Plan.{is_plan}
use Rattle.junos_policies.proofs.policy.policy_options.Goals as goal

pub options_over-requires : goal.options_over-requires
options_over-requires c = subst (λ (p : PartsList). AllByRecursion FitsText p.paths) (sym c.in_ok-parts.ensures) (paths_fit c.args.steps.now c.requires)

pub returns : goal.returns
returns c = is_plan c.args.name.now c.args.steps.now _ _ c.in_ok-parts.ensures c.requires c.in_ok-options.ensures.options c.in_ok-options.ensures.few
