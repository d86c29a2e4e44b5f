use Rattle.std.proofs.Common.{◌∙◌, ap, ℕ, ◌/◌, ◌%◌, Bool, ◌&&◌, ◌||◌}
use Rattle.std.specs.Prelude.{nat_lt}
use Rattle.route_types.specs.Community.{fits}
use Rattle.route_types.specs.Sets.{fits_some}
use Rattle.community_sets.specs.declared.side.Side.{Side}
use Rattle.community_sets.specs.Sides.{in_side, in_part}
use Rattle.community_sets.proofs.Sides.{within_is, left_parts}
use Rattle.community_sets.proofs.left.push_left.Goals as goal

pub returns : goal.returns
returns c = λ x.
    let h : ℕ = x.0 / 65536 in
    let l : ℕ = x.0 % 65536 in
    let high : Side = c.high_side-high.result in
    let low : Side = c.low_side-low.result in
    let high_cut : Side = c.high_side-high_cut.result in
    let low_cut : Side = c.low_side-low_cut.result in
    let zero : Bool = fits_some fits c.args.left.now.items x in
    let one : Bool = fits_some fits c.push_part.new.left.items x in
    let two : Bool = fits_some fits c.push_part-2.new.left.items x in
    let three : Bool = fits_some fits c.push_part-3.new.left.items x in
    rw (
      ← c.high_side-high.ensures.least,
      ← c.high_side-high.ensures.most,
      ← c.low_side-low.ensures.least,
      ← c.low_side-low.ensures.most,
      ← c.high_side-high_cut.ensures.least,
      ← c.high_side-high_cut.ensures.most,
      ← c.low_side-low_cut.ensures.least,
      ← c.low_side-low_cut.ensures.most,
    )
    (left_parts zero one two three (fits_some fits c.push_part-4.new.left.items x) (in_side high h) (in_side low l) (in_side high_cut h) (in_side low_cut l)
    (nat_lt h high_cut.least) (nat_lt high_cut.most h) (nat_lt l low_cut.least) (nat_lt low_cut.most l) (within_is high_cut.least high_cut.most h) (within_is low_cut.least low_cut.most l)
    (c.in_ok-push_part.ensures x ∙ ap (λ (b : Bool). zero || (b && in_side low l)) (c.below.ensures h))
    (c.in_ok-push_part-2.ensures x ∙ ap (λ (b : Bool). one || (b && in_side low l)) (c.above.ensures h))
    (c.in_ok-push_part-3.ensures x ∙ ap (λ (b : Bool). two || (b && in_part c.below-2.result l)) (c.common-within.ensures h) ∙ ap (λ (b : Bool). two || ((in_side high h && in_side high_cut h) && b)) (c.below-2.ensures l))
    (c.in_ok-push_part-4.ensures x ∙ ap (λ (b : Bool). three || (b && in_part c.above-2.result l)) (c.common-within.ensures h) ∙ ap (λ (b : Bool). three || ((in_side high h && in_side high_cut h) && b)) (c.above-2.ensures l)))
