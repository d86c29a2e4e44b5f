-- The tree of an RPL text: which of its statements are items, and the form of each. What stands outside
-- blocks and opens none is foreign and dropped. A text that is broken has no tree.
use Rattle.std.specs.Prelude.{◌≡◌, ℕ, true, false, List, [], ◌∷◌, Option, Some, None, Result, Ok, Err, option_map, slice_get, map}
use Rattle.policy_text.specs.Names.{or_else}
use Rattle.text_words.specs.RplCut.{rpl_cut}
use Rattle.text_words.specs.declared.fault.TextFault.{TextFault}
use Rattle.text_words.specs.declared.rpl_blocks.BlockKind.{BlockKind}
use Rattle.text_words.specs.declared.statement.Statement.{Statement}
use Rattle.text_words.specs.declared.statement.Word.{Word}
use Rattle.rpl_forms.specs.Statements.{header_in, form_in, tests_in}
use Rattle.rpl_words.specs.Tokens.{tokens}
use Rattle.rpl_forms.specs.declared.item.RplForm.{RplForm}
use Rattle.rpl_forms.specs.declared.item.RplForm.TheVariants.{Header as OfHeader, End, Other}
use Rattle.rpl_forms.specs.declared.item.RplItem.{RplItem}
use Rattle.rpl_tree.specs.Blocks.{opens, ends_block, keyword}
use Rattle.rpl_tree.specs.Broken.{broken, IsFault}

-- the text of the second word
abbrev pub second_word : List Word → Option (List ℕ)
second_word ws = option_map (λ w. w.text) (slice_get ws 1)

-- a header of no form, under its second word
abbrev pub other_header : BlockKind → List Word → RplForm
other_header kind ws = Other (record { opens = Some kind; name = second_word ws; keyword = None })

-- a statement of no form in a block
abbrev pub other_statement : BlockKind → List Word → RplForm
other_statement kind ws = Other (record { opens = None; name = None; keyword = keyword kind ws })

-- the item of a header
unfoldable pub header_item : BlockKind → Statement → RplItem
header_item kind s = record { form = or_else (option_map OfHeader (header_in kind (tokens s.words))) (other_header kind s.words); span = s.span; tests = [] }

-- the item of a statement in a block that doesn't end it
unfoldable pub statement_item : BlockKind → Statement → RplItem
statement_item kind s = record { form = or_else (form_in kind (tokens s.words)) (other_statement kind s.words); span = s.span; tests = tests_in s.words }

-- the item of the word that ends a block
abbrev pub end_item : Statement → RplItem
end_item s = record { form = End; span = s.span; tests = [] }

-- the items of statements, in a block or outside
unfoldable pub items_of : Option BlockKind → List Statement → List RplItem
items_of block [] = []
items_of None (s ∷ ss) = elim (opens s.words) [
  | None ↦ items_of None ss
  | Some kind ↦ header_item kind s ∷ items_of (Some kind) ss
]
items_of (Some kind) (s ∷ ss) = elim (ends_block kind s.words) [
  | true ↦ end_item s ∷ items_of None ss
  | false ↦ statement_item kind s ∷ items_of (Some kind) ss
]

-- the tree of statements: none where they are broken
abbrev pub tree_or : Option TextFault → List RplItem → Option (List RplItem)
tree_or None items = Some items
tree_or (Some fault) items = None

-- the tree that statements read as
unfoldable pub tree_in : List Statement → Option (List RplItem)
tree_in ss = tree_or (broken ss) (items_of None ss)

-- a result is the tree of statements, or their first fault, or want of memory
abbrev pub Gives : List Statement → Result (List RplItem) TextFault → Type 0
Gives ss (Ok items) = tree_in ss ≡ Some items
Gives ss (Err fault) = IsFault (broken ss) fault

-- the tree that a text reads as
abbrev pub rpl_tree : List ℕ → Option (List RplItem)
rpl_tree text = tree_in (rpl_cut text)

-- what the items say, without where they stand: no meaning looks at a place
abbrev pub forms : List RplItem → List RplForm
forms items = map (λ i. i.form) items
