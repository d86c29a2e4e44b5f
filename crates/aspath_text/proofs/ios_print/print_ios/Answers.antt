use Rattle.std.proofs.Common.{option_map}
use Rattle.aspath_text.proofs.Written.{printed, if_ok}
use Rattle.aspath_text.proofs.ios_print.print_ios.Goals as goal

pub returns : goal.returns
returns c =
    if_ok c.behind_first_byte.result _ _
    (λ x e. printed c.args.pattern.now c.as_slice.result.now c.in_ok-text.text.items c.as_slice-2.result.now (option_map (λ t. t.items) x) c.in_ok-text.ensures c.as_slice.ensures c.as_slice-2.ensures.value e)
    c.behind_first_byte.ensures
