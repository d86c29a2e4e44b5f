use Rattle.std.proofs.Common.{◌∙◌, refl}
use Rattle.junos_policies.proofs.Noted.{items_noted}
use Rattle.junos_policies.proofs.sets.note_each.Goals as goal

pub loop-rest-preserved : goal.loop-rest-preserved
loop-rest-preserved g c =
    items_noted g.T.PartialEq.eq g.U.Uses.uses c.loop-rest.set.keys c.note.new.set.keys c.loop-rest.rest.now c.item-item.result _ c.in-len1-up.len_at_least c.item-item.is refl c.in_ok-note.ensures
    ∙ c.loop-rest.invariant
