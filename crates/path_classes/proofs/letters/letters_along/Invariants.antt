use Rattle.std.proofs.Common.{◌≡◌, length, drop}
use Rattle.path_classes.specs.Letters.{AreTold, AreLetters}
use Rattle.path_classes.proofs.letters.letters_along.Given as goal

abbrev pub invariant-loop-rest : goal.invariant-loop-rest
invariant-loop-rest l = record {
  told : AreTold l.lines l.rows.keys l.numbers;
  lettered : AreLetters l.lines l.numbers l.ends l.letters;
  rest : l.rest ≡ drop (length l.letters) l.ends;
}

abbrev pub decreases-loop-rest : goal.decreases-loop-rest
decreases-loop-rest l = length l.rest
