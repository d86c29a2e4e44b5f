use Rattle.std.proofs.Common.{◌≡◌, ◌+◌, ◌≤◌, ◌++◌, None, length}
use Rattle.text_words.specs.RplText.{rpl_text}
use Rattle.rpl_text.specs.Layout.{lines_of}
use Rattle.rpl_text.proofs.write.push_forms.Given as goal

abbrev pub invariant-loop-rest : goal.invariant-loop-rest
invariant-loop-rest l = record {
  written : l.out.items ++ rpl_text (lines_of l.block l.level l.rest) ≡ l.initial.out.items ++ rpl_text (lines_of None 1 l.forms);
  shallow : l.level + length l.rest ≤ length l.forms + 1;
}

abbrev pub decreases-loop-rest : goal.decreases-loop-rest
decreases-loop-rest l = length l.rest
