use Rattle.std.proofs.Common.{◌∙◌, ap, ◌++◌, List}
use Rattle.std.specs.List.{flat_map}
use Rattle.std.proofs.lemmas.Result.{IfOk-weaker}
use Rattle.path_classes.specs.Threads.{next}
use Rattle.path_classes.specs.declared.threads.Thread.{Thread}
use Rattle.path_classes.proofs.ThreadLaws.{follows}
use Rattle.path_classes.proofs.configs.step.Goals as goal

pub returns : goal.returns
returns c = IfOk-weaker c.tidy.result _ _
    (λ us same. follows c.args.lines.now c.args.threads.now c.push_all.new.out us c.args.number
    (c.in_ok-push_all.ensures ∙ ap (λ (ts : List Thread). ts ++ flat_map (λ t. next c.args.lines.now c.args.number t) c.args.threads.now) c.new-led.ensures) same)
    c.tidy.ensures
