-- The cut of a Junos text: words are grouped to statements by what ends them. `;` ends a statement, `{`
-- ends one and opens a block, and `}` closes the block and is a statement without words. The text is cut
-- from left to right, and the first fault stands. So a text has a cut or a fault, and never both.
use Rattle.std.specs.Prelude.{◌≡◌, ℕ, ◌+◌, List, [], ◌∷◌, ◌++◌, length, Option, Some, None, Result, Ok, Err}
use Rattle.text_words.specs.declared.fault.BrokenKind.TheVariants.{OpenBrace, StrayBrace, NoEnder}
use Rattle.text_words.specs.declared.fault.TextFault.{TextFault}
use Rattle.text_words.specs.declared.fault.TextFault.TheVariants.{Broken, Memory}
use Rattle.text_words.specs.declared.statement.Span.{Span}
use Rattle.text_words.specs.declared.statement.Word.{Word}
use Rattle.text_words.specs.declared.statement.Ender.{Ender as EnderOf}
use Rattle.text_words.specs.declared.statement.Ender.TheVariants.{Semi as BySemi, Open as ByOpen, Close as ByClose}
use Rattle.text_words.specs.declared.statement.Statement.{Statement}
use Rattle.text_words.specs.declared.junos_bytes.Mark.TheVariants.{Semi, Open, Close}
use Rattle.text_words.specs.declared.junos_words.Within.TheVariants.{Outside}
use Rattle.text_words.specs.LineCut.{end_of}
use Rattle.text_words.specs.JunosWords.{Token, IsWord, Ender, Unclosed, span, tokens_at}

-- the statements of a text, or its first fault
abbrev pub Outcome : Type 0
Outcome = Result (List Statement) TextFault

-- statements in front of the others
abbrev pub in_front : List Statement → Outcome → Outcome
in_front ss (Ok others) = Ok (ss ++ others)
in_front ss (Err fault) = Err fault

-- where these words stand; without words, at the byte at place p that ends the statement
abbrev pub span_of_words : List Word → ℕ → Span
span_of_words [] p = span p (p + 1)
span_of_words (w ∷ ws) p = span w.span.start (end_of w.span.end ws)

-- a statement of these words, ended by the byte at place p where this many blocks are open
abbrev pub statement_of : List Word → EnderOf → ℕ → ℕ → Statement
statement_of words ender depth p = record { words = words; ender = ender; depth = depth; span = span_of_words words p }

-- the text ends behind these words, with these statements' blocks open, the innermost first
abbrev pub at_text_end : List Word → List Span → Outcome
at_text_end (w ∷ ws) opened = Err (Broken (span_of_words (w ∷ ws) 0) NoEnder)
at_text_end [] (innermost ∷ others) = Err (Broken innermost OpenBrace)
at_text_end [] [] = Ok []

-- the statements of tokens that stand behind these words of the first of them, in the blocks that these
-- statements opened, the innermost first
unfoldable pub grouped : List Word → List Span → List Token → Outcome
grouped words opened [] = at_text_end words opened
grouped words opened (IsWord word ∷ ts) = grouped (words ++ word ∷ []) opened ts
grouped words opened (Unclosed kind place ∷ ts) = Err (Broken place kind)
grouped words opened (Ender Semi p ∷ ts) = in_front (statement_of words BySemi (length opened) p ∷ []) (grouped [] opened ts)
grouped words opened (Ender Open p ∷ ts) = in_front (statement_of words ByOpen (length opened) p ∷ []) (grouped [] (span_of_words words p ∷ opened) ts)
grouped (w ∷ ws) opened (Ender Close p ∷ ts) = Err (Broken (span_of_words (w ∷ ws) p) NoEnder)
grouped [] [] (Ender Close p ∷ ts) = Err (Broken (span p (p + 1)) StrayBrace)
grouped [] (innermost ∷ others) (Ender Close p ∷ ts) = in_front (statement_of [] ByClose (length (innermost ∷ others)) p ∷ []) (grouped [] others ts)

-- the statements of a Junos text, or its first fault
unfoldable pub cut_or_fault : List ℕ → Outcome
cut_or_fault text = grouped [] [] (tokens_at Outside 0 text)

-- the statements of a Junos text; none where it has a fault
abbrev pub cut_in : Outcome → Option (List Statement)
cut_in (Ok statements) = Some statements
cut_in (Err fault) = None

abbrev pub junos_cut : List ℕ → Option (List Statement)
junos_cut text = cut_in (cut_or_fault text)

-- the first fault of a Junos text; none where it has a cut
abbrev pub fault_in : Outcome → Option TextFault
fault_in (Ok statements) = None
fault_in (Err fault) = Some fault

abbrev pub junos_fault : List ℕ → Option TextFault
junos_fault text = fault_in (cut_or_fault text)

-- the outcome is this fault; want of memory says nothing of the text
abbrev pub FaultIs : Outcome → TextFault → Type 0
FaultIs outcome (Broken place kind) = outcome ≡ Err (Broken place kind)
FaultIs outcome Memory = Unit {0}

-- the result is the outcome, or want of memory
abbrev pub Gives : Outcome → Outcome → Type 0
Gives outcome (Ok statements) = outcome ≡ Ok statements
Gives outcome (Err fault) = FaultIs outcome fault

-- the fault of a text is this one; want of memory says nothing of the text
abbrev pub IsFault : Option TextFault → TextFault → Type 0
IsFault fault (Broken place kind) = fault ≡ Some (Broken place kind)
IsFault fault Memory = Unit {0}

-- just one of the two is there
abbrev pub HasOne : {A B : Type 0} → Option A → Option B → Type 0
HasOne (Some x) None = Unit {0}
HasOne None (Some y) = Unit {0}
HasOne (Some x) (Some y) = ⊥
HasOne None None = ⊥
