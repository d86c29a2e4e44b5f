-- How forms are laid out: a line a form, two spaces a level, and the text of the lines.
use Rattle.std.specs.Prelude.{ℕ, ◌+◌, ◌-◌, ◌*◌, Bool, true, false, List, [], ◌∷◌, Option, Some, None}
use Rattle.text_words.specs.RplText.{RplLine, Remark, Header as HeaderLine, Element as ElementLine, Step, EndSet, EndPolicy, rpl_text}
use Rattle.text_words.specs.declared.rpl_blocks.BlockKind.{BlockKind}
use Rattle.text_words.specs.declared.rpl_blocks.BlockKind.TheVariants.{PrefixSet as PrefixBlock, CommunitySet as CommunityBlock, PathSet as PathBlock, Policy as PolicyBlock}
use Rattle.rpl_forms.specs.declared.item.Header.{Header}
use Rattle.rpl_forms.specs.declared.item.Header.TheVariants.{PrefixSet, CommunitySet, PathSet, Policy}
use Rattle.rpl_forms.specs.declared.item.PolicyStatement.{PolicyStatement}
use Rattle.rpl_forms.specs.declared.item.PolicyStatement.TheVariants.{If, ElseIf, Else, EndIf}
use Rattle.rpl_forms.specs.declared.item.RplForm.{RplForm}
use Rattle.rpl_forms.specs.declared.item.RplForm.TheVariants.{Header as OfHeader, Element as OfElement, Statement as OfStatement, End, Other}
use Rattle.rpl_text.specs.Words.{laid, element_phrase, statement_phrase, header_phrase}

-- the block that a first line opens
abbrev pub kind_of : Header → BlockKind
kind_of (PrefixSet n) = PrefixBlock
kind_of (CommunitySet n) = CommunityBlock
kind_of (PathSet n) = PathBlock
kind_of (Policy h) = PolicyBlock

-- the line that ends a block
abbrev pub closing : Option BlockKind → RplLine
closing (Some PolicyBlock) = EndPolicy
closing _ = EndSet

-- an element comes first: a comma stands before it
abbrev pub goes_on : List RplForm → Bool
goes_on (OfElement e ∷ fs) = true
goes_on _ = false

-- the level of a statement, where others stand at this one: a branch stands with its `if`
abbrev pub level_at : ℕ → PolicyStatement → ℕ
level_at level (ElseIf terms) = level - 1
level_at level Else = level - 1
level_at level EndIf = level - 1
level_at level _ = level

-- the level of the statements behind one
abbrev pub level_behind : ℕ → PolicyStatement → ℕ
level_behind level (If terms) = level + 1
level_behind level EndIf = level - 1
level_behind level _ = level

-- the lines of forms, in a block or outside, with statements at this level: a line a form, two spaces a level,
-- a comma behind each element but the last, and `!` behind each block
unfoldable pub lines_of : Option BlockKind → ℕ → List RplForm → List RplLine
lines_of block level [] = []
lines_of block level (OfHeader h ∷ fs) = HeaderLine (kind_of h) (laid 1 (header_phrase h)) ∷ lines_of (Some (kind_of h)) 1 fs
lines_of block level (OfElement e ∷ fs) = ElementLine (goes_on fs) (laid 2 (element_phrase e)) ∷ lines_of block level fs
lines_of block level (OfStatement s ∷ fs) = Step (laid (2 * level_at level s) (statement_phrase s)) ∷ lines_of block (level_behind level s) fs
lines_of block level (End ∷ fs) = closing block ∷ Remark ∷ lines_of None 1 fs
lines_of block level (Other o ∷ fs) = lines_of block level fs

-- the text of forms
unfoldable pub text_of : List RplForm → List ℕ
text_of fs = rpl_text (lines_of None 1 fs)
