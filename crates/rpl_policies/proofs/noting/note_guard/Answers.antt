use Rattle.std.proofs.Common.{refl, ◌∙◌}
use Rattle.rpl_layout.specs.Sharing.{literal_tests}
use Rattle.rpl_policies.proofs.Noted.{items_noted}
use Rattle.rpl_policies.proofs.noting.note_guard.Goals as goal

pub loop-rest-preserved : goal.loop-rest-preserved
loop-rest-preserved c =
    items_noted literal_tests c.loop-rest.sets _ c.loop-rest.rest.now c.literal-item.result _ c.in-len1-up.len_at_least c.literal-item.is refl c.in_ok-note_terms.ensures
    ∙ c.loop-rest.invariant
