-- Worked examples of the cut of Junos texts that the checker computes.
use Rattle.std.proofs.Common.{◌≡◌, refl, ℕ, true, false, List, [], ◌∷◌, ◌++◌, Some}
use Rattle.std.specs.Prelude.{codes, map}
use Rattle.text_words.specs.declared.fault.BrokenKind.{BrokenKind}
use Rattle.text_words.specs.declared.fault.BrokenKind.TheVariants.{OpenQuote, OpenComment, OpenBrace, StrayBrace, NoEnder}
use Rattle.text_words.specs.declared.fault.TextFault.TheVariants.{Broken}
use Rattle.text_words.specs.declared.statement.Word.{Word}
use Rattle.text_words.specs.declared.statement.Ender.{Ender}
use Rattle.text_words.specs.declared.statement.Ender.TheVariants.{Semi, Open, Close}
use Rattle.text_words.specs.declared.statement.Statement.{Statement}
use Rattle.text_words.specs.Pieces.{Piece, word_at, pieces_text, placed}
use Rattle.text_words.specs.Signs.{are_words}
use Rattle.text_words.specs.JunosWords.{span, tokens_at, step_at, sort_at}
use Rattle.text_words.specs.JunosCut.{junos_cut, junos_fault, cut_or_fault, grouped}
use Rattle.text_words.specs.JunosWritten.{JunosLine, Says, Opens, Closes, plain_bytes, quoted_bytes, may_be_written, lines_text, junos_text, junos_placed}

-- a word at place p
abbrev word : ℕ → List ℕ → Word
word p text = word_at p text false

abbrev quoted : ℕ → List ℕ → Word
quoted p text = word_at p text true

-- a statement with its depth, its words, and its span
abbrev says : Ender → ℕ → List Word → ℕ → ℕ → Statement
says ender depth words p q = record { words = words; ender = ender; depth = depth; span = span p q }

abbrev quote : List ℕ
quote = 34 ∷ []

abbrev line_end : List ℕ
line_end = 10 ∷ []

abbrev return : List ℕ
return = 13 ∷ []

-- each text with the statements to which it is cut
abbrev cuts : List (List ℕ × List Statement)
cuts =
    -- blanks and line ends separate words
    ((9 ∷ 32 ∷ []) ++ codes "a" ++ line_end ++ codes "bc ;", says Semi 0 (word 2 (codes "a") ∷ word 4 (codes "bc") ∷ []) 2 6 ∷ [])
    -- no blanks are needed beside what ends a statement; `}` has the depth of its block
    ∷ (codes "a{b;}", says Open 0 (word 0 (codes "a") ∷ []) 0 1 ∷ says Semi 1 (word 2 (codes "b") ∷ []) 2 3 ∷ says Close 1 [] 4 5 ∷ [])
    -- statements without words have the span of the byte that ends them
    ∷ (codes ";{}", says Semi 0 [] 0 1 ∷ says Open 0 [] 1 2 ∷ says Close 1 [] 2 3 ∷ [])
    -- brackets are words of their own
    ∷ (codes "m[1 2];", says Semi 0 (word 0 (codes "m") ∷ word 1 (codes "[") ∷ word 2 (codes "1") ∷ word 4 (codes "2") ∷ word 5 (codes "]") ∷ []) 0 6 ∷ [])
    -- form feed, slash and star, and bytes above 127 are bytes of words
    ∷ ((97 ∷ 12 ∷ 98 ∷ []) ++ codes " 1/8 * " ++ (195 ∷ []) ++ codes ";", says Semi 0 (word 0 (97 ∷ 12 ∷ 98 ∷ []) ∷ word 4 (codes "1/8") ∷ word 8 (codes "*") ∷ word 10 (195 ∷ []) ∷ []) 0 11 ∷ [])
    -- a comment ends a word
    ∷ (codes "re/* */ject;", says Semi 0 (word 0 (codes "re") ∷ word 7 (codes "ject") ∷ []) 0 11 ∷ [])
    -- `/*/` only opens a comment, and `**/` closes it
    ∷ (codes "/*/ a; **/b;", says Semi 0 (word 10 (codes "b") ∷ []) 10 11 ∷ [])
    -- `#` is a comment to the end of the line
    ∷ (codes "a#; {" ++ line_end ++ codes "b;", says Semi 0 (word 0 (codes "a") ∷ word 6 (codes "b") ∷ []) 0 7 ∷ [])
    -- in quotes all stands for itself, and quotes end a word
    ∷ (codes "a" ++ quote ++ codes "; }" ++ line_end ++ codes "/*" ++ quote ++ codes "b;", says Semi 0 (word 0 (codes "a") ∷ quoted 1 (codes "; }" ++ line_end ++ codes "/*") ∷ word 9 (codes "b") ∷ []) 0 10 ∷ [])
    -- there are no escapes: a backslash is a byte of the word, and the next quote closes it
    ∷ (quote ++ (97 ∷ 92 ∷ []) ++ quote ++ codes "b;", says Semi 0 (quoted 0 (97 ∷ 92 ∷ []) ∷ word 4 (codes "b") ∷ []) 0 5 ∷ [])
    -- a CR right before an LF is dropped, in quotes too
    ∷ (codes "a" ++ return ++ line_end ++ quote ++ codes "b" ++ return ++ line_end ++ quote ++ codes ";", says Semi 0 (word 0 (codes "a") ∷ record { text = codes "b" ++ line_end; quoted = true; span = span 3 8 } ∷ []) 0 8 ∷ [])
    -- any other CR is a byte of a word: of two before an LF the first
    ∷ (codes "a" ++ return ++ return ++ line_end ++ codes ";", says Semi 0 (word 0 (codes "a" ++ return) ∷ []) 0 2 ∷ [])
    ∷ []

cuts_are : map (λ row. junos_cut row.0) cuts ≡ map (λ row. Some row.1) cuts
unfolding cut_or_fault grouped tokens_at step_at sort_at
cuts_are = refl

-- each text with its first fault, and where the fault starts and ends
abbrev faults : List (List ℕ × BrokenKind × ℕ × ℕ)
faults =
    -- a `}` where no block is open
    (codes "a;}b", StrayBrace, 2, 3)
    -- words before a `}` are the fault, where no block is open too
    ∷ (codes "a{b c}", NoEnder, 2, 5)
    ∷ (codes "a }", NoEnder, 0, 1)
    ∷ (codes "a{} b c", NoEnder, 4, 7)
    ∷ (codes "a;" ++ return, NoEnder, 2, 3)
    -- the innermost statement whose block is open
    ∷ (codes "a{b c{d{}", OpenBrace, 2, 5)
    ∷ (codes "policy-options {" ++ line_end ++ codes "    as-path A " ++ quote ++ codes "65001 .", OpenQuote, 31, 32)
    ∷ (codes "a; /*/", OpenComment, 3, 5)
    -- at the text's end a quote or a comment comes before words, and words before a block
    ∷ (codes "a{b" ++ quote, OpenQuote, 3, 4)
    ∷ (codes "a{b/*", OpenComment, 3, 5)
    ∷ (codes "a{b", NoEnder, 2, 3)
    -- the first fault from the left stands
    ∷ (codes "}" ++ quote, StrayBrace, 0, 1)
    ∷ []

faults_are : map (λ row. junos_fault row.0) faults ≡ map (λ row. Some (Broken (span row.2 row.3) row.1)) faults
unfolding cut_or_fault grouped tokens_at step_at sort_at
faults_are = refl

-- ---- what is written

-- one space between words
abbrev piece : List ℕ → Piece
piece text = record { gap = 1; text = text; quoted = false }

abbrev first : List ℕ → Piece
first text = record { gap = 0; text = text; quoted = false }

abbrev sample : List JunosLine
sample = Opens (first (codes "a") ∷ []) ∷ Says (first (codes "m") ∷ piece (codes "[") ∷ piece (codes "1:*") ∷ first (codes "]") ∷ []) ∷ Closes ∷ Says (first (codes "p") ∷ record { gap = 1; text = codes "{"; quoted = true } ∷ []) ∷ []

sample_text : junos_text sample ≡ codes "a {" ++ line_end ++ codes "    m [ 1:*];" ++ line_end ++ codes "}" ++ line_end ++ codes "p " ++ quote ++ codes "{" ++ quote ++ codes ";" ++ line_end
unfolding lines_text pieces_text
sample_text = refl

sample_is_written : may_be_written 0 sample ≡ true
unfolding may_be_written are_words plain_bytes quoted_bytes sort_at
sample_is_written = refl

sample_statements : junos_placed 0 0 sample ≡ says Open 0 (word 0 (codes "a") ∷ []) 0 1 ∷ says Semi 1 (word 8 (codes "m") ∷ word 10 (codes "[") ∷ word 12 (codes "1:*") ∷ word 15 (codes "]") ∷ []) 8 16 ∷ says Close 1 [] 18 19 ∷ says Semi 0 (word 20 (codes "p") ∷ quoted 22 (codes "{") ∷ []) 20 25 ∷ []
unfolding junos_placed placed pieces_text
sample_statements = refl
