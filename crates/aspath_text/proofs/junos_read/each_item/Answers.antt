use Rattle.std.proofs.Common.{sym, ◌∙◌, false, []}
use Rattle.policy_text.specs.Phrases.{each}
use Rattle.policy_text.proofs.Phrases.{each_by_walk}
use Rattle.aspath_text.specs.JunosRead.{item_in, items_of}
use Rattle.aspath_text.proofs.JunosCut.{text_found, text_refused, last_found, reads_by}
use Rattle.aspath_text.proofs.junos_read.each_item.Goals as goal

pub returns-in_err-item : goal.returns-in_err-item
returns-in_err-item c =
    reads_by (each item_in (items_of false c.args.text.now)) c.from_residual.result c.in_err-item.field-0.0 c.from_residual.ensures
    (text_refused item_in c.loop-front.items c.in-Some.front.now (items_of false c.loop-front.rest.now) (items_of false c.in-Some.behind.now) _ c.in_err-item.field-0.0 c.in-Some.ensures.parted c.in_err-item.ensures (c.loop-front.invariant ∙ each_by_walk item_in (items_of false c.args.text.now)))

pub loop-front-preserved : goal.loop-front-preserved
loop-front-preserved c =
    text_found item_in c.loop-front.items c.push.new.self c.in_ok-item.field-0 c.in-Some.front.now (items_of false c.loop-front.rest.now) (items_of false c.in-Some.behind.now) _ c.in-Some.ensures.parted c.in_ok-item.ensures c.in_ok-push.ensures c.loop-front.invariant

pub returns-in_err-item-2 : goal.returns-in_err-item-2
returns-in_err-item-2 c =
    reads_by (each item_in (items_of false c.args.text.now)) c.from_residual-in_err-item-2.result c.in_err-item-2.field-0.0 c.from_residual-in_err-item-2.ensures
    (text_refused item_in c.loop-front.items c.loop-front.rest.now (items_of false c.loop-front.rest.now) [] _ c.in_err-item-2.field-0.0 c.in_default.ensures.parted c.in_err-item-2.ensures (c.loop-front.invariant ∙ each_by_walk item_in (items_of false c.args.text.now)))

pub returns : goal.returns
returns c =
    sym (each_by_walk item_in (items_of false c.args.text.now))
    ∙ last_found item_in c.loop-front.items c.push-2.new.self c.in_ok-item-2.field-0 c.loop-front.rest.now (items_of false c.loop-front.rest.now) _ c.in_default.ensures.parted c.in_ok-item-2.ensures c.in_ok-push-2.ensures c.loop-front.invariant
