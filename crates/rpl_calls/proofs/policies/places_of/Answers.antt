use Rattle.std.proofs.Common.{refl, arith, length}
use Rattle.name_maps.specs.Under.{under}
use Rattle.rpl_calls.proofs.Placed.{none_placed, one_placed, all_placed, counted}
use Rattle.rpl_calls.proofs.policies.places_of.Goals as goal

pub loop-rest-init : goal.loop-rest-init
loop-rest-init c = record { told = none_placed (under c.new-places.result.entries) c.args.names.now c.new-places.ensures; small = omega arith }

pub loop-rest-preserved : goal.loop-rest-preserved
loop-rest-preserved c = record {
  told = one_placed (under c.loop-rest.places.entries) (under c.put_first.new.self.entries) c.loop-rest.place _ c.args.names.now c.loop-rest.rest.now c.first-item.result c.as_slice.result.now c.in-len1-up.len_at_least c.first-item.is refl c.as_slice.ensures c.in_ok-put_first.ensures c.loop-rest.invariant.told;
  small = counted c.loop-rest.place (length c.args.names.now) _ c.loop-rest.rest.now c.in-len1-up.len_at_least refl c.loop-rest.invariant.small;
}

pub returns : goal.returns
returns c = all_placed (under c.loop-rest.places.entries) c.loop-rest.place c.args.names.now c.loop-rest.rest.now c.in_default.len_below c.loop-rest.invariant.told
