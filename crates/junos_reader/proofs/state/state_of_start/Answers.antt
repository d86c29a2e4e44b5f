use Rattle.std.proofs.Common.{refl}
use Rattle.junos_reader.proofs.Behind.{nothing_before, no_names}
use Rattle.junos_reader.proofs.TermStates.{empty_is}
use Rattle.junos_reader.proofs.state.state_of_start.Goals as goal

pub returns : goal.returns
returns c =
    nothing_before _ refl (no_names c.new-defined.result c.new-defined.ensures.empty) (no_names c.new-terms.result c.new-terms.ensures.empty)
    (empty_is c.empty_term-named.result c.empty_term-named.ensures.kinds c.empty_term-named.ensures.filters)
    (empty_is c.empty_term-unnamed.result c.empty_term-unnamed.ensures.kinds c.empty_term-unnamed.ensures.filters)
    c.no_flags-flags.ensures
