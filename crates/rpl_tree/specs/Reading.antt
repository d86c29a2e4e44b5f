-- How the statements of a text read as a tree, one by one. What stands outside blocks and opens none is
-- foreign and dropped.
use Rattle.std.specs.Prelude.{◌≡◌, true, false, ◌⊎◌, List, [], ◌∷◌, Option, Some, None}
use Rattle.text_words.specs.declared.fault.TextFault.{TextFault}
use Rattle.text_words.specs.declared.fault.TextFault.TheVariants.{Broken, Memory}
use Rattle.text_words.specs.declared.rpl_blocks.BlockKind.{BlockKind}
use Rattle.text_words.specs.declared.statement.Statement.{Statement}
use Rattle.text_words.specs.declared.statement.Word.{Word}
use Rattle.rpl_forms.specs.Statements.{SpellHeader, SpellWithin, tests_in}
use Rattle.rpl_words.specs.Tokens.{tokens}
use Rattle.rpl_forms.specs.declared.item.Header.{Header}
use Rattle.rpl_forms.specs.declared.item.RplForm.{RplForm}
use Rattle.rpl_forms.specs.declared.item.RplForm.TheVariants.{Header as OfHeader, End}
use Rattle.rpl_forms.specs.declared.item.RplItem.{RplItem}
use Rattle.rpl_tree.specs.Blocks.{opens, ends_block}
use Rattle.rpl_tree.specs.Broken.{IsWhole}
use Rattle.rpl_tree.specs.Tree.{other_header, other_statement}

-- the words of the first line of a block spell this form; where they spell none, it is an Other under its name
abbrev pub SaysHeader : BlockKind → List Word → RplForm → Type 0
SaysHeader kind ws form =
    ((h : Header) × SpellHeader kind (tokens ws) h × (form ≡ OfHeader h))
    ⊎ (((h : Header) → SpellHeader kind (tokens ws) h → ⊥) × (form ≡ other_header kind ws))

-- the words of a statement in a block spell this form; where they spell none, it is an Other
abbrev pub Says : BlockKind → List Word → RplForm → Type 0
Says kind ws form = SpellWithin kind (tokens ws) form ⊎ (((any : RplForm) → SpellWithin kind (tokens ws) any → ⊥) × (form ≡ other_statement kind ws))

-- the item of a first line: what its words say, and its span
pub record IsHeader (kind : BlockKind) (s : Statement) (i : RplItem) : Type 0 where
  pub says : SaysHeader kind s.words i.form
  pub span : i.span ≡ s.span
  pub tests : i.tests ≡ []

-- the item of a statement in a block: what its words say, its span, and those of its tests
pub record IsStatement (kind : BlockKind) (s : Statement) (i : RplItem) : Type 0 where
  pub says : Says kind s.words i.form
  pub span : i.span ≡ s.span
  pub tests : i.tests ≡ tests_in s.words

-- the item of the word that ends a block
pub record IsEnd (s : Statement) (i : RplItem) : Type 0 where
  pub says : i.form ≡ End
  pub span : i.span ≡ s.span
  pub tests : i.tests ≡ []

-- statements in a block or outside read as these items
abbrev pub ReadsFrom : Option BlockKind → List Statement → List RplItem → Type 0
ReadsFrom block [] is = is ≡ []
ReadsFrom None (s ∷ ss) is =
    ((opens s.words ≡ None) × ReadsFrom None ss is)
    ⊎ ((kind : BlockKind) × (i : RplItem) × (more : List RplItem) × (is ≡ i ∷ more) × (opens s.words ≡ Some kind) × IsHeader kind s i × ReadsFrom (Some kind) ss more)
ReadsFrom (Some kind) (s ∷ ss) is =
    ((i : RplItem) × (more : List RplItem) × (is ≡ i ∷ more) × (ends_block kind s.words ≡ true) × IsEnd s i × ReadsFrom None ss more)
    ⊎ ((i : RplItem) × (more : List RplItem) × (is ≡ i ∷ more) × (ends_block kind s.words ≡ false) × IsStatement kind s i × ReadsFrom (Some kind) ss more)

-- the statements of a text read as this tree: they are broken nowhere, and are these items
abbrev pub Reads : List Statement → List RplItem → Type 0
Reads ss is = IsWhole ss × ReadsFrom None ss is

-- broken statements read as no tree; want of memory says nothing of them
abbrev pub HasNoTree : List Statement → TextFault → Type 0
HasNoTree ss (Broken span kind) = (is : List RplItem) → Reads ss is → ⊥
HasNoTree ss Memory = Unit {0}
