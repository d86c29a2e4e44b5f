use Rattle.std.proofs.Common.{ap, ◌∙◌}
use Rattle.policy_text.specs.Causes.{first_cause}
use Rattle.rpl_reader.specs.Known.{known_facts, told}
use Rattle.rpl_reader.specs.Holding.{cause_in}
use Rattle.rpl_reader.specs.declared.causes.Causes.{Causes}
use Rattle.rpl_reader.proofs.Held.{held}
use Rattle.rpl_reader.proofs.causes.cause_of.Goals as goal

pub returns : goal.returns
returns c =
    c.first_cause-cause.ensures ∙ ap (λ (h : Causes). first_cause (cause_in h)) c.in_ok-causes.ensures
    ∙ (λ j. first_cause (λ cause. held c.args.known.now.policy.now (known_facts c.args.known.now) (told c.args.state.now) c.args.form.now cause j))
