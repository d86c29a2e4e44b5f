use Rattle.std.proofs.Common.{refl}
use Rattle.path_patterns.proofs.JunosAdds.{stops, goes, stays_writable}
use Rattle.path_patterns.proofs.junos_items.written.Goals as goal

pub returns-then-not-branch : goal.returns-then-not-branch
returns-then-not-branch c =
    stops c.loop-rest.found c.add_items.new.items c.loop-rest.rest.now c.args.items.now c.item-item.result _ c.in-len1-up.len_at_least c.item-item.is c.if-not-branch.true c.in_ok-add_items.ensures c.loop-rest.invariant.same

pub loop-rest-preserved : goal.loop-rest-preserved
loop-rest-preserved c = record {
  writable = stays_writable c.loop-rest.found c.add_items.new.items c.item-item.result _ c.if-not-branch.false c.in_ok-add_items.ensures c.loop-rest.invariant.writable;
  same = goes c.loop-rest.found c.add_items.new.items c.loop-rest.rest.now c.args.items.now c.item-item.result _ _ c.in-len1-up.len_at_least c.item-item.is refl c.if-not-branch.false c.in_ok-add_items.ensures c.loop-rest.invariant.same;
}
