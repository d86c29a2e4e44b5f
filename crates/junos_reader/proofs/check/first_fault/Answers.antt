use Rattle.std.proofs.Common.{refl, sym, ◌∙◌, []}
use Rattle.junos_reader.specs.Known.{known_facts}
use Rattle.junos_reader.proofs.FirstFault.{passes, stops, ends, nothing_left}
use Rattle.junos_reader.proofs.check.first_fault.Goals as goal

pub loop-rest-init : goal.loop-rest-init
loop-rest-init c = ([], c.state_of_start-state.ensures, refl)

pub returns-in-Some : goal.returns-in-Some
returns-in-Some c = stops c.args.names.now c.args.items.now c.loop-rest.rest.now c.loop-rest.state c.loop-rest.invariant (known_facts c.in_ok-known.known) c.in_ok-known.ensures c.item-item.result c.in-len1-up.len_at_least c.item-item.is c.in-Some.cause (sym c.in-Some.ensures)

pub loop-rest-preserved : goal.loop-rest-preserved
loop-rest-preserved c = passes c.args.names.now c.args.items.now c.loop-rest.rest.now c.loop-rest.state c.loop-rest.invariant (known_facts c.in_ok-known.known) c.in_ok-known.ensures c.item-item.result c.in-len1-up.len_at_least c.item-item.is
    _ c.pass_item.new.state refl (sym c.fault_of.ensures ∙ nothing_left c.fault_of.result c.in_default-fault_of.not-Some) c.in_ok-pass_item.ensures

pub returns : goal.returns
returns c = ends c.args.names.now c.args.items.now c.loop-rest.rest.now c.loop-rest.state c.loop-rest.invariant c.in_default.len_below
