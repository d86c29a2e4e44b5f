use Rattle.std.proofs.Common.{◌∙◌, ap, ◌++◌, List}
use Rattle.std.proofs.lemmas.Result.{IfOk-weaker}
use Rattle.path_classes.specs.Threads.{starts_from}
use Rattle.path_classes.specs.declared.threads.Thread.{Thread}
use Rattle.path_classes.proofs.ThreadLaws.{begins}
use Rattle.path_classes.proofs.configs.start.Goals as goal

pub returns : goal.returns
returns c = IfOk-weaker c.tidy.result _ _
    (λ us same. begins c.args.lines.now c.push_starts.new.out us (c.in_ok-push_starts.ensures ∙ ap (λ (ts : List Thread). ts ++ starts_from 0 c.args.lines.now) c.new-threads.ensures) same)
    c.tidy.ensures
