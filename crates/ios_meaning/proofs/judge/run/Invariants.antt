use Rattle.std.proofs.Common.{◌≡◌, [], length}
use Rattle.std.specs.Prelude.{map, reverse}
use Rattle.ios_meaning.specs.Meaning.{run}
use Rattle.ios_meaning.specs.Drafts.{entry_of}
use Rattle.ios_meaning.proofs.judge.run.Given as goal

abbrev pub decreases-loop-entry : goal.decreases-loop-entry
decreases-loop-entry l = length l.ahead.items

abbrev pub invariant-loop-entry : goal.invariant-loop-entry
invariant-loop-entry l = run l.answers.items.now l.answers.route.now l.least (map entry_of l.held.items) (map entry_of (reverse l.ahead.items)) ≡ run l.answers.items.now l.answers.route.now 0 [] (map entry_of l.fn.entries.items)
