use Rattle.aspath_text.specs.IosText.{tail_text}
use Rattle.path_patterns.specs.declared.pattern.Repeat.TheVariants.{Maybe}
use Rattle.aspath_text.proofs.SetText.{one_fewer}
use Rattle.aspath_text.proofs.ios_text.push_tails.Goals as goal

pub loop-left-preserved : goal.loop-left-preserved
loop-left-preserved c =
    one_fewer c.push_tail.new.out.items c.loop-left.out.items (tail_text c.args.words.now Maybe) _ c.loop-left.left c.in_ok-push_tail.ensures c.loop-left.invariant c.loop-left-test.true
