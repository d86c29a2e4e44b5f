use Rattle.std.proofs.Common.{refl, arith, ◌∙◌, ap, ℕ, take, drop, length, ◌-◌}
use Rattle.aspath_text.specs.IosWalk.{part_length}
use Rattle.aspath_text.proofs.IosReadCuts.{next_part}
use Rattle.aspath_text.proofs.ios_words.next_part.Goals as goal

pub returns : goal.returns
returns c =
    next_part c.args.byte c.part_length-length.result c.args.text.now (take (length c.args.text.now - 1) (drop 1 c.args.text.now)) refl (omega (arith, c.in-len1-up.len_at_least))
    (c.part_length-length.ensures.value ∙ ap (λ (d : ℕ). part_length c.args.byte d (take (length c.args.text.now - 1) (drop 1 c.args.text.now))) c.depth_behind.ensures)
