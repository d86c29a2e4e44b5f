use Rattle.std.proofs.Common.{◌≡◌, ◌+◌, ◌++◌, length}
use Rattle.rpl_layout.specs.Forms.{set_name, blocks_from}
use Rattle.rpl_policies.proofs.blocks.push_each_block.Given as goal

abbrev pub invariant-loop-rest : goal.invariant-loop-rest
invariant-loop-rest g l = (l.place + length l.rest ≡ length l.sets) × (l.out ++ blocks_from (λ n. g.S.SetSort.head (set_name l.name l.letter n)) g.S.SetSort.elements l.place l.rest ≡ l.fn.out ++ blocks_from (λ n. g.S.SetSort.head (set_name l.name l.letter n)) g.S.SetSort.elements 0 l.sets)

abbrev pub decreases-loop-rest : goal.decreases-loop-rest
decreases-loop-rest g l = length l.rest
