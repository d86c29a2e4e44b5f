-- A step of the cut, and what stands behind it.
use Rattle.std.proofs.Common.{◌≡◌, ap, ◌∙◌, List, ◌∷◌, append_assoc}
use Rattle.text_words.specs.declared.rpl_blocks.Cutting.{Cutting}
use Rattle.text_words.specs.declared.statement.Word.{Word}
use Rattle.text_words.specs.RplWords.{Lexeme, EndsLine, IsWord}
use Rattle.text_words.specs.RplCut.{taken, cut_from}
use Rattle.text_words.specs.RplReach.{after, reach}

reach_after : (c : Cutting) (l : Lexeme) (ls : List Lexeme) → reach (after c (taken c.place c.words l)) ls ≡ reach c (l ∷ ls)
unfolding cut_from
reach_after c l ls = append_assoc c.statements (taken c.place c.words l).ended (cut_from (taken c.place c.words l).place (taken c.place c.words l).words ls)

pub reach_word : (d c : Cutting) (w : Word) (ls : List Lexeme) → d ≡ after c (taken c.place c.words (IsWord w)) → reach d ls ≡ reach c (IsWord w ∷ ls)
reach_word d c w ls e = ap (λ (x : Cutting). reach x ls) e ∙ reach_after c (IsWord w) ls

pub reach_line : (d c : Cutting) (ls : List Lexeme) → d ≡ after c (taken c.place c.words EndsLine) → reach d ls ≡ reach c (EndsLine ∷ ls)
reach_line d c ls e = ap (λ (x : Cutting). reach x ls) e ∙ reach_after c EndsLine ls
