use Rattle.std.proofs.Common.{◌∙◌, sym, ap, arith, ◌-◌, ◌+◌, List}
use Rattle.aspath_text.specs.IosWalk.{sets_onto}
use Rattle.path_patterns.specs.declared.pattern.DigitSet.{DigitSet}
use Rattle.aspath_text.proofs.IosReadSets.{set_found, is_empty_then, not_empty_then, all_found, one_missing, too_many}
use Rattle.aspath_text.proofs.ios_words.sets.Goals as goal

pub returns-then-is_empty : goal.returns-then-is_empty
returns-then-is_empty c = all_found (10 - c.loop.counter) c.loop.found c.loop.rest.now c.args.text.now (is_empty_then c.loop.rest.now _ c.is_empty.ensures c.if-is_empty.true) c.loop.invariant

pub returns-in-None : goal.returns-in-None
returns-in-None c = one_missing (10 - c.loop.counter) c.loop.found c.loop.rest.now c.args.text.now (not_empty_then c.loop.rest.now _ c.is_empty.ensures c.if-is_empty.false) (sym c.in-None.ensures) c.loop.invariant

pub loop-preserved : goal.loop-preserved
loop-preserved c =
    ap (λ (found : List DigitSet). sets_onto (10 - (c.loop.counter + 1)) found c.in-Some.behind.now) c.in_ok-push-in-Some.ensures
    ∙ set_found (10 - c.loop.counter) (10 - (c.loop.counter + 1)) c.loop.found c.loop.rest.now c.in-Some.set c.in-Some.behind.now (omega (arith, c.loop-test.true)) (not_empty_then c.loop.rest.now _ c.is_empty.ensures c.if-is_empty.false) (sym c.in-Some.ensures)
    ∙ c.loop.invariant

pub returns-then-is_empty-2 : goal.returns-then-is_empty-2
returns-then-is_empty-2 c = all_found (10 - c.loop.counter) c.loop.found c.loop.rest.now c.args.text.now (is_empty_then c.loop.rest.now _ c.is_empty-2.ensures c.if-is_empty-2.true) c.loop.invariant

pub returns-else-is_empty-2 : goal.returns-else-is_empty-2
returns-else-is_empty-2 c = too_many (10 - c.loop.counter) c.loop.found c.loop.rest.now c.args.text.now (omega (arith, c.loop-test.false)) (not_empty_then c.loop.rest.now _ c.is_empty-2.ensures c.if-is_empty-2.false) c.loop.invariant
