use Rattle.std.proofs.Common.{◌∙◌, ap, ◌++◌, ◌∷◌, [], List}
use Rattle.std.specs.Cmp.Lexicographic.{pointwise}
use Rattle.indexmap.specs.IndexSet.{insert_key}
use Rattle.path_classes.specs.declared.threads.Thread.{Thread}
use Rattle.path_classes.proofs.Tells.{same_thread}
use Rattle.path_classes.proofs.StateLaws.{explored_first}
use Rattle.path_classes.proofs.states.first_state.Goals as goal

pub returns : goal.returns
returns c = λ sound numbers.
    explored_first c.args.lines.now numbers _ c.in_ok-start.field-0
    (c.in_ok-insert_full.ensures.keys ∙ ap (λ (ks : List (List Thread)). insert_key (pointwise same_thread) ks c.in_ok-start.field-0) c.new.ensures.empty)
    (c.in_ok-push.ensures ∙ (λ i. c.new-2.ensures i ++ c.new-4.ensures i ∷ []))
    c.new-3.ensures (c.in_ok-start.ensures sound)
