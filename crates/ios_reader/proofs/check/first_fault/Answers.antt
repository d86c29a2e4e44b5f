use Rattle.std.proofs.Common.{refl, sym, ◌∙◌, []}
use Rattle.ios_reader.specs.Known.{known_facts}
use Rattle.ios_reader.proofs.Places.{nothing_before}
use Rattle.ios_reader.proofs.FirstFault.{passes, stops, ends, nothing_left}
use Rattle.ios_reader.proofs.check.first_fault.Goals as goal

pub loop-rest-init : goal.loop-rest-init
loop-rest-init g c = ([], nothing_before c.args.policy.now c.place_of_start-place.result c.new-marks.result c.place_of_start-place.ensures c.new-marks.ensures.empty, refl)

pub returns-in-Some : goal.returns-in-Some
returns-in-Some g c = stops g.T.Takes.takes c.args.policy.now c.args.items.now c.loop-rest.rest.now c.loop-rest.place c.loop-rest.marks c.loop-rest.invariant (known_facts c.in_ok-known.known) c.in_ok-known.ensures c.item-item.result c.in-len1-up.len_at_least c.item-item.is c.in-Some.cause (sym c.in-Some.ensures)

pub loop-rest-preserved : goal.loop-rest-preserved
loop-rest-preserved g c = passes g.T.Takes.takes c.args.policy.now c.args.items.now c.loop-rest.rest.now c.loop-rest.place c.loop-rest.marks c.loop-rest.invariant (known_facts c.in_ok-known.known) c.in_ok-known.ensures c.item-item.result c.in-len1-up.len_at_least c.item-item.is
    _ c.place_behind-place.result c.note.new.names refl (sym c.fault_of.ensures ∙ nothing_left c.fault_of.result c.in_default-fault_of.not-Some)
    (λ before behind. c.place_behind-place.ensures before c.loop-rest.marks c.note.new.names behind c.in_ok-note.ensures)

pub returns : goal.returns
returns g c = ends g.T.Takes.takes c.args.policy.now c.args.items.now c.loop-rest.rest.now c.loop-rest.place c.loop-rest.marks c.loop-rest.invariant c.in_default.len_below
