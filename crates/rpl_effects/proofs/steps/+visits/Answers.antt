use Rattle.std.proofs.Common.{refl, arith}
use Rattle.rpl_effects.specs.Pieces.{leaves_at, steps_of}
use Rattle.rpl_effects.proofs.AnswerLaws.{back, visited_none, visited_seen, visited_effect, visiting_first, visiting_one, visiting_those, visiting_last}
use Rattle.rpl_effects.proofs.steps.+visits.Goals as goal

pub visit-returns-then-older-place : goal.visit-returns-then-older-place
visit-returns-then-older-place g t c = λ answer at agrees tells. visited_none answer at c.args.older.now c.args.place c.args.seen.now c.args.found.now.items (omega (arith, c.if-older-place.true)) tells

pub visit-returns-then-is_seen : goal.visit-returns-then-is_seen
visit-returns-then-is_seen g t c = λ answer at agrees tells.
    visited_seen answer at c.args.older.now c.args.place c.args.seen.now c.args.found.now.items agrees (omega (arith, c.if-older-place.false)) (c.is_seen.ensures c.if-is_seen.true) tells

pub visit-returns : goal.visit-returns
visit-returns g t c = λ answer at agrees tells.
    visited_effect answer at c.args.older.now _ c.args.place c.lent-effect.result.now c.steps_of.result.now c.args.seen.now c.visit_all.new.seen c.note.new.seen c.args.found.now.items c.visit_all.new.found.items c.lent-effect.ensures refl
    c.steps_of.ensures agrees tells (c.in_ok-visit_all.ensures answer at) c.note.ensures

pub visit_all-loop-rest-init : goal.visit_all-loop-rest-init
visit_all-loop-rest-init g t c = λ answer at agrees tells. visiting_first answer at (leaves_at steps_of c.args.older.now) c.args.pieces.now c.args.found.now.items c.args.seen.now tells

pub visit_all-loop-rest-preserved-in_ok-push-in-One : goal.visit_all-loop-rest-preserved-in_ok-push-in-One
visit_all-loop-rest-preserved-in_ok-push-in-One g t c = λ answer at agrees tells.
    visiting_one answer at (leaves_at steps_of c.args.older.now) c.args.pieces.now c.loop-rest.rest.now _ c.in-One.step c.args.found.now.items c.loop-rest.found.items c.push.new.self.items c.loop-rest.seen
    (back c.loop-rest.rest.now c.last-item.result _ _ c.in-len1-up.len_at_least c.last-item.is refl c.in-One.is) c.in_ok-push-in-One.ensures.items (c.loop-rest.invariant answer at agrees tells)

pub visit_all-loop-rest-preserved : goal.visit_all-loop-rest-preserved
visit_all-loop-rest-preserved g t c = λ answer at agrees tells.
    visiting_those answer at (leaves_at steps_of c.args.older.now) c.args.pieces.now c.loop-rest.rest.now _ c.in-OfEffect.place c.args.found.now.items c.loop-rest.found.items c.visit.new.found.items c.loop-rest.seen c.visit.new.seen
    (back c.loop-rest.rest.now c.last-item.result _ _ c.in-len1-up.len_at_least c.last-item.is refl c.in-OfEffect.is) (c.in_ok-visit-in-OfEffect.ensures answer at agrees)
    (c.loop-rest.invariant answer at agrees tells)

pub visit_all-returns : goal.visit_all-returns
visit_all-returns g t c = λ answer at agrees tells.
    visiting_last answer at (leaves_at steps_of c.args.older.now) c.args.pieces.now c.loop-rest.rest.now c.args.found.now.items c.loop-rest.found.items c.loop-rest.seen c.in_default.len_below (c.loop-rest.invariant answer at agrees tells)
