use Rattle.std.proofs.Common.{subst, List, ℕ}
use Rattle.ios_meaning.specs.Answers.{ArePathAnswers}
use Rattle.ios_meaning.proofs.PathLists.{path_answers_are}
use Rattle.ios_meaning.proofs.answers.on_path.Goals as goal

pub returns : goal.returns
returns c =
    subst (λ (path : List ℕ). ArePathAnswers c.args.items.now path c.in_ok-found.found) c.path.ensures (path_answers_are c.args.items.now c.path.result.now c.in_ok-found.found c.in_ok-found.ensures)
