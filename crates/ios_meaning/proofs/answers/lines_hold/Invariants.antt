use Rattle.std.proofs.Common.{◌≡◌, length}
use Rattle.std.specs.Prelude.{map}
use Rattle.std.specs.List.{list_all}
use Rattle.ios_meaning.specs.Meaning.{line_holds}
use Rattle.ios_meaning.proofs.answers.lines_hold.Given as goal

abbrev pub decreases-loop-rest : goal.decreases-loop-rest
decreases-loop-rest l = length l.rest

abbrev pub invariant-loop-rest : goal.invariant-loop-rest
invariant-loop-rest l = list_all (line_holds l.answers.items.now l.answers.route.now) (map (λ m. m.now) l.rest) ≡ list_all (line_holds l.answers.items.now l.answers.route.now) (map (λ m. m.now) l.lines)
