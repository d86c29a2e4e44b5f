use Rattle.std.proofs.Common.{refl, sym, ◌∙◌}
use Rattle.junos_reader.proofs.Behind.{behind_unnamed, behind_named}
use Rattle.junos_reader.proofs.TermStates.{noted_tells, noted_len}
use Rattle.junos_reader.proofs.state.add_statement.Goals as goal

pub returns-then-is_unnamed : goal.returns-then-is_unnamed
returns-then-is_unnamed c = λ before behind.
    behind_unnamed c.args.form.now before c.args.state.now _ c.requires behind refl refl refl c.flags_behind-state.ensures (sym c.is_unnamed.ensures ∙ c.if-is_unnamed.true) refl
    (noted_tells c.args.form.now _ _ c.in_ok-note_statement.ensures behind.unnamed_len) (noted_len c.args.form.now _ _ c.in_ok-note_statement.ensures behind.unnamed_len)

pub returns : goal.returns
returns c = λ before behind.
    behind_named c.args.form.now before c.args.state.now _ c.requires behind refl refl refl c.flags_behind-state.ensures (sym c.is_unnamed.ensures ∙ c.if-is_unnamed.false) refl
    (noted_tells c.args.form.now _ _ c.in_ok-note_statement-2.ensures behind.named_len) (noted_len c.args.form.now _ _ c.in_ok-note_statement-2.ensures behind.named_len)
