-- The cut of an IOS text: its lines, without those that have no word and those whose first word starts
-- with `!`.
use Rattle.std.specs.Prelude.{ℕ, Bool, false, not, List, [], ◌∷◌}
use Rattle.std.specs.List.{filter}
use Rattle.text_words.specs.Text.{starts_with_byte}
use Rattle.text_words.specs.LineCut.{line_cut}
use Rattle.text_words.specs.declared.statement.Word.{Word}
use Rattle.text_words.specs.declared.statement.Statement.{Statement}

-- words that are a statement
abbrev pub is_said : List Word → Bool
is_said [] = false
is_said (w ∷ ws) = not (starts_with_byte 33 w.text)

-- the statements of an IOS text
unfoldable pub ios_cut : List ℕ → List Statement
ios_cut text = filter (λ s. is_said s.words) (line_cut text)
