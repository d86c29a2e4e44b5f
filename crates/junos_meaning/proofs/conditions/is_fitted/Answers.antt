use Rattle.std.proofs.Common.{◌∙◌}
use Rattle.junos_meaning.proofs.SetTests.{fitted_in_set}
use Rattle.junos_meaning.proofs.conditions.is_fitted.Goals as goal

pub returns : goal.returns
returns c = c.some_fits.ensures ∙ fitted_in_set c.args.member.now c.args.communities.now
