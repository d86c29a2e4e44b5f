use Rattle.std.proofs.Common.{refl, arith}
use Rattle.rpl_reader.specs.Known.{known_facts, known_block, told}
use Rattle.rpl_reader.specs.Faults.{earliest_item}
use Rattle.rpl_reader.proofs.Walk.{goes, ends, fewer}
use Rattle.rpl_reader.proofs.items.earliest_item.Goals as goal

pub loop-rest-init : goal.loop-rest-init
loop-rest-init c = record {
  is = λ j. earliest_item c.args.known.now.policy.now (known_facts c.args.known.now) (known_block c.args.known.now) c.args.other (c.state_of_start-state.ensures.told j) (c.state_of_start-state.ensures.reached j) c.args.items.now;
  few = omega (arith, c.state_of_start-state.ensures.ifs);
}

pub loop-rest-preserved : goal.loop-rest-preserved
loop-rest-preserved c = record {
  is = goes c.args.known.now.policy.now (known_facts c.args.known.now) (known_block c.args.known.now) c.loop-rest.found c.in_ok-fault.fault _ _ (told c.loop-rest.state) _ c.loop-rest.state.reached c.open_behind-reached.result _ c.first-item.result
      c.open_behind-reached.ensures c.in_ok-fault.ensures c.earlier-found.ensures c.in_ok-pass_form.ensures.told c.in_ok-pass_form.ensures.reached
      c.loop-rest.rest.now _ c.in-len1-up.len_at_least c.first-item.is refl c.loop-rest.invariant.is;
  few = fewer c.loop-rest.state.ifs _ _ _ c.loop-rest.rest.now c.in-len1-up.len_at_least refl c.in_ok-pass_form.ensures.ifs c.loop-rest.invariant.few;
}

pub returns : goal.returns
returns c = ends c.args.known.now.policy.now (known_facts c.args.known.now) (known_block c.args.known.now) c.loop-rest.found _ (told c.loop-rest.state) c.loop-rest.state.reached c.loop-rest.rest.now c.in_default.len_below c.loop-rest.invariant.is
