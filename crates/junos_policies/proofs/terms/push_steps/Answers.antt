use Rattle.std.proofs.Common.{◌∙◌, refl}
use Rattle.junos_policies.specs.Names.{writing}
use Rattle.junos_policies.proofs.Numbered.{more_steps, last_step}
use Rattle.junos_policies.proofs.terms.push_steps.Goals as goal

pub returns-then-not-branch : goal.returns-then-not-branch
returns-then-not-branch c =
    last_step (writing c.args.names.now) c.loop-rest.rest.now c.step-item.result c.loop-rest.out c.push_step.new.out c.in_ok-push_step.field-0 c.in-len1-up.len_at_least c.step-item.is c.if-not-branch.true c.in_ok-push_step.ensures
    ∙ c.loop-rest.invariant

pub loop-rest-preserved : goal.loop-rest-preserved
loop-rest-preserved c =
    more_steps (writing c.args.names.now) c.loop-rest.rest.now c.step-item.result _ c.loop-rest.out c.push_step.new.out c.in_ok-push_step.field-0 c.in-len1-up.len_at_least c.step-item.is refl c.if-not-branch.false c.in_ok-push_step.ensures
    ∙ c.loop-rest.invariant
