use Rattle.std.proofs.Common.{◌≡◌, ◌++◌, length}
use Rattle.rpl_forms.specs.Terms.{spans_behind}
use Rattle.rpl_forms.proofs.condition_words.spans.Given as goal

abbrev pub invariant-loop-rest : goal.invariant-loop-rest
invariant-loop-rest l = l.found ++ spans_behind 0 l.rest ≡ spans_behind 0 l.words

abbrev pub decreases-loop-rest : goal.decreases-loop-rest
decreases-loop-rest l = length l.rest
