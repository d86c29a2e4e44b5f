use Rattle.std.proofs.Common.{◌∙◌, ap, sym, List}
use Rattle.junos_plans.specs.Apart.{rise_from}
use Rattle.junos_plans.specs.declared.apart.Block.{Block}
use Rattle.junos_plans.proofs.ApartLaws.{apart_from}
use Rattle.junos_plans.proofs.apart.are_apart.Goals as goal

pub returns : goal.returns
returns c apart =
    apart_from c.args.ranges.now c.in_ok-sorted.sorted.items c.sort_by_key.new.self.items c.in_ok-sorted.ensures.ranges c.in_ok-sorted.ensures.blocks c.in_ok-sort_by_key.ensures.permutation
    (sym (c.rise_from-apart.ensures ∙ ap (λ (bs : List Block). rise_from 0 bs) c.as_slice.ensures.value) ∙ apart)
