-- Texts as they are put together: a condition from those of its operands, and forms line by line.
use Rattle.std.specs.Prelude.{ℕ, ◌*◌, Bool, true, false, List, [], ◌∷◌, ◌++◌, Option, Some, None, codes}
use Rattle.text_words.specs.Pieces.{spaces}
use Rattle.text_words.specs.RplCut.{opening}
use Rattle.text_words.specs.RplText.{line_bytes}
use Rattle.text_words.specs.declared.rpl_blocks.BlockKind.{BlockKind}
use Rattle.rpl_forms.specs.declared.item.RplForm.{RplForm}
use Rattle.rpl_forms.specs.declared.item.RplForm.TheVariants.{Header as OfHeader, Element as OfElement, Statement as OfStatement, End, Other}
use Rattle.rpl_words.specs.declared.condition.Term.{Term}
use Rattle.rpl_words.specs.declared.condition.Term.TheVariants.{Test, Group, Not, And, Or}
use Rattle.rpl_text.specs.Layout.{kind_of, closing, level_at, level_behind}
use Rattle.rpl_text.specs.Words.{phrase_text, test_phrase, element_phrase, statement_phrase, header_phrase}

-- the text of terms behind operands that are already written, the last one first
unfoldable pub operands_text : List (List ℕ) → List Term → List ℕ
operands_text ps (Test t ∷ ts) = operands_text (phrase_text (test_phrase t) ∷ ps) ts
operands_text (p ∷ ps) (Group ∷ ts) = operands_text ((40 ∷ (p ++ (41 ∷ []))) ∷ ps) ts
operands_text (p ∷ ps) (Not ∷ ts) = operands_text ((codes "not " ++ p) ∷ ps) ts
operands_text (q ∷ p ∷ ps) (And ∷ ts) = operands_text ((p ++ (codes " and " ++ q)) ∷ ps) ts
operands_text (q ∷ p ∷ ps) (Or ∷ ts) = operands_text ((p ++ (codes " or " ++ q)) ∷ ps) ts
operands_text (p ∷ ps) [] = p
operands_text [] [] = []
operands_text ps (t ∷ ts) = operands_text ps ts

-- what stands behind an element
abbrev pub comma_text : Bool → List ℕ
comma_text true = codes ","
comma_text false = []

-- the line of a form, in a block or outside, at a level, before an element or not, and `!` behind the end of a block
abbrev pub form_text : Option BlockKind → ℕ → Bool → RplForm → List ℕ
form_text block level more (OfHeader h) = opening (kind_of h) ++ (32 ∷ (phrase_text (header_phrase h) ++ (10 ∷ [])))
form_text block level more (OfElement e) = codes "  " ++ (phrase_text (element_phrase e) ++ (comma_text more ++ (10 ∷ [])))
form_text block level more (OfStatement s) = spaces (2 * level_at level s) ++ (phrase_text (statement_phrase s) ++ (10 ∷ []))
form_text block level more End = line_bytes (closing block) ++ (10 ∷ 33 ∷ 10 ∷ [])
form_text block level more (Other o) = []

-- the block that is open behind a form
abbrev pub block_after : Option BlockKind → RplForm → Option BlockKind
block_after block (OfHeader h) = Some (kind_of h)
block_after block End = None
block_after block _ = block

-- the level of the statements behind a form
abbrev pub level_after : ℕ → RplForm → ℕ
level_after level (OfHeader h) = 1
level_after level (OfStatement s) = level_behind level s
level_after level End = 1
level_after level _ = level
