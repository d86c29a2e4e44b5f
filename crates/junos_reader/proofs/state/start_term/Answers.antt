use Rattle.std.proofs.Common.{refl, ap, ◌∙◌, ◌||◌, ℕ, List}
use Rattle.policy_text.specs.NameSets.{has_name, is_key}
use Rattle.junos_reader.proofs.Behind.{behind_header}
use Rattle.junos_reader.proofs.TermStates.{empty_is}
use Rattle.junos_reader.proofs.state.start_term.Goals as goal

pub returns : goal.returns
returns c = λ before behind.
    behind_header c.args.form.now c.args.name.now c.requires before c.args.state.now _ behind refl refl
    (λ q a b. c.in_ok-add_name.ensures q a b ∙ ap (λ (ns : List ℕ). is_key q a b ns 0 0 || has_name c.args.state.now.terms q a b) c.as_slice.ensures)
    (empty_is c.empty_term-named.result c.empty_term-named.ensures.kinds c.empty_term-named.ensures.filters) refl c.flags_behind-state.ensures
