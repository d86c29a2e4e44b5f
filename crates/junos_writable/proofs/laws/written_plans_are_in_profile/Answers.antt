use Rattle.std.proofs.Common.{sym, ◌∙◌}
use Rattle.junos_layout.proofs.InProfile.{plan_in_profile}
use Rattle.junos_writable.proofs.OwnNames.{forms_same}
use Rattle.junos_writable.proofs.laws.written_plans_are_in_profile.Goals as goal

pub returns : goal.returns
returns c name defs w steps items says few fit fits named = plan_in_profile name defs w steps items (sym (forms_same items) ∙ says) few fit fits named
