use Rattle.std.proofs.Common.{refl, ◌∙◌}
use Rattle.rpl_layout.specs.Sharing.{term_tests}
use Rattle.rpl_policies.proofs.Noted.{items_noted}
use Rattle.rpl_policies.proofs.noting.note_each_term.Goals as goal

pub loop-rest-preserved : goal.loop-rest-preserved
loop-rest-preserved c =
    items_noted term_tests c.loop-rest.sets _ c.loop-rest.rest.now c.term-item.result _ c.in-len1-up.len_at_least c.term-item.is refl c.in_ok-note_term.ensures
    ∙ c.loop-rest.invariant
