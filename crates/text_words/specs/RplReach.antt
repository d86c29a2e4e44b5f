-- A cut of an RPL text under way, and the statements that it comes to.
use Rattle.std.specs.Prelude.{List, ◌++◌}
use Rattle.text_words.specs.declared.statement.Statement.{Statement}
use Rattle.text_words.specs.declared.rpl_blocks.Cutting.{Cutting}
use Rattle.text_words.specs.RplWords.{Lexeme}
use Rattle.text_words.specs.RplCut.{Taken, cut_from}

-- the cut behind a word or a line end
abbrev pub after : Cutting → Taken → Cutting
after c t = record { statements = c.statements ++ t.ended; place = t.place; words = t.words }

-- the statements of a cut before these words and line ends
abbrev pub reach : Cutting → List Lexeme → List Statement
reach c ls = c.statements ++ cut_from c.place c.words ls
