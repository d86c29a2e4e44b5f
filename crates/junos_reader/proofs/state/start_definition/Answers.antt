use Rattle.junos_reader.proofs.Behind.{behind_definition, no_names}
use Rattle.junos_reader.proofs.TermStates.{empty_is}
use Rattle.junos_reader.proofs.state.start_definition.Goals as goal

pub returns : goal.returns
returns c = λ before behind.
    behind_definition c.args.form.now before c.args.state.now _ behind c.requires c.definition_of-state.ensures c.in_ok-add_definition.ensures (no_names c.new-terms.result c.new-terms.ensures.empty)
    (empty_is c.empty_term-named.result c.empty_term-named.ensures.kinds c.empty_term-named.ensures.filters)
    (empty_is c.empty_term-unnamed.result c.empty_term-unnamed.ensures.kinds c.empty_term-unnamed.ensures.filters)
    c.no_flags-state.ensures
