use Rattle.std.proofs.Common.{◌∷◌}
use Rattle.aspath_text.specs.IosText.{set_text}
use Rattle.aspath_text.proofs.SetText.{one_fewer}
use Rattle.aspath_text.proofs.ios_text.push_pieces.Goals as goal

pub loop-left-preserved : goal.loop-left-preserved
loop-left-preserved c =
    one_fewer c.push_piece.new.out.items c.loop-left.out.items (95 ∷ set_text c.args.words.now) _ c.loop-left.left c.in_ok-push_piece.ensures c.loop-left.invariant c.loop-left-test.true
