use Rattle.std.proofs.Common.{◌≡◌, ◌+◌, ◌≤◌, length}
use Rattle.aspath_text.specs.IosWalk.{part_length}
use Rattle.aspath_text.proofs.ios_words.part_length.Given as goal

abbrev pub invariant-loop-rest : goal.invariant-loop-rest
invariant-loop-rest l = record {
  value : l.count + part_length l.byte l.unclosed l.rest ≡ part_length l.byte l.fn.depth l.text;
  depth : l.unclosed ≤ 1 + l.count;
  within : l.count + length l.rest ≡ length l.text;
}

abbrev pub decreases-loop-rest : goal.decreases-loop-rest
decreases-loop-rest l = length l.rest
