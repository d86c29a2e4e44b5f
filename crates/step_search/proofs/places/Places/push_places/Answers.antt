use Rattle.step_search.proofs.Tables.{starts, goes, ends, falls, nothing_left}
use Rattle.step_search.proofs.places.Places.push_places.Goals as goal

pub loop-at-init : goal.loop-at-init
loop-at-init c = starts c.args.name.now c.args.row.now c.args.self.now c.get-at.result c.get-at.ensures

pub loop-at-smaller : goal.loop-at-smaller
loop-at-smaller c = falls c.args.self.now.earlier.items c.loop-at.at c.before-at.result c.in-Some.place c.in-Some.is c.before-at.ensures

pub loop-at-preserved : goal.loop-at-preserved
loop-at-preserved c = goes c.args.name.now c.args.row.now c.loop-at.row c.push.new.self c.args.self.now c.loop-at.at c.before-at.result c.in-Some.place c.in-Some.is c.in_ok-push.ensures c.loop-at.invariant c.before-at.ensures

pub returns : goal.returns
returns c = ends c.args.name.now c.args.row.now c.loop-at.row c.args.self.now c.loop-at.at (nothing_left c.loop-at.at c.in_default.not-Some) c.loop-at.invariant
