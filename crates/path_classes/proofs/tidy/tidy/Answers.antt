use Rattle.std.proofs.Common.{◌∙◌, ap, subst, List}
use Rattle.std.specs.List.Sorted.{IsPermutation}
use Rattle.std.proofs.lemmas.Result.{IfOk-weaker}
use Rattle.path_classes.specs.Tidy.{tidied, SayTheSame}
use Rattle.path_classes.specs.declared.threads.Thread.{Thread}
use Rattle.path_classes.proofs.TidyLaws.{tidied_same}
use Rattle.path_classes.proofs.tidy.tidy.Goals as goal

pub returns : goal.returns
returns c = IfOk-weaker c.tidied.result _ (SayTheSame c.args.threads)
    (λ us is. tidied_same c.args.threads c.sort_by_key.new.self.items us
    (subst (λ (ts : List Thread). IsPermutation ts c.sort_by_key.new.self.items) c.into_vec-ordered.ensures c.in_ok-sort_by_key.ensures.permutation)
    (is ∙ ap (λ (ts : List Thread). tidied ts) c.as_slice.ensures.value))
    c.tidied.ensures
