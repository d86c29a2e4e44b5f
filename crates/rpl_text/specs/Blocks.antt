-- What a text that is written says: its forms, and its blocks.
use Rattle.std.specs.Prelude.{◌≡◌, ℕ, true, false, List, [], ◌∷◌, Option, Some, None, option_map}
use Rattle.text_words.specs.RplCut.{rpl_cut}
use Rattle.text_words.specs.declared.rpl_blocks.BlockKind.{BlockKind}
use Rattle.text_words.specs.declared.statement.Statement.{Statement}
use Rattle.text_words.specs.declared.statement.Word.{Word}
use Rattle.rpl_forms.specs.declared.item.Header.{Header}
use Rattle.rpl_forms.specs.declared.item.Header.TheVariants.{PrefixSet, CommunitySet, PathSet, Policy}
use Rattle.rpl_forms.specs.declared.item.RplForm.{RplForm}
use Rattle.rpl_forms.specs.declared.item.RplForm.TheVariants.{Header as OfHeader}
use Rattle.rpl_forms.specs.declared.item.RplItem.{RplItem}
use Rattle.rpl_tree.specs.Blocks.{opens, ends_block}
use Rattle.rpl_tree.specs.Reading.{Reads}
use Rattle.rpl_tree.specs.Tree.{forms, second_word}

-- the statements of the text read as a tree, which says these forms
abbrev pub ReadsAs : List ℕ → List RplForm → Type 0
ReadsAs text fs = (tree : List RplItem) × Reads (rpl_cut text) tree × (forms tree ≡ fs)

-- the block that is open behind a statement of a block
abbrev pub block_behind : BlockKind → List Word → Option BlockKind
block_behind kind ws = elim (ends_block kind ws) [ true ↦ None | false ↦ Some kind ]

-- a name in front of others, where both are there
abbrev pub named_first : Option (List ℕ) → Option (List (List ℕ)) → Option (List (List ℕ))
named_first None names = None
named_first (Some n) names = option_map (λ ns. n ∷ ns) names

-- the names of the blocks of statements, in a block or outside; none where a statement outside blocks opens none
unfoldable pub block_names : Option BlockKind → List Statement → Option (List (List ℕ))
block_names block [] = Some []
block_names None (s ∷ ss) = elim (opens s.words) [ None ↦ None | Some kind ↦ named_first (second_word s.words) (block_names (Some kind) ss) ]
block_names (Some kind) (s ∷ ss) = block_names (block_behind kind s.words) ss

-- the name of a block
abbrev pub name_of : Header → List ℕ
name_of (PrefixSet n) = n
name_of (CommunitySet n) = n
name_of (PathSet n) = n
name_of (Policy h) = h.name

-- the names of the blocks of forms
unfoldable pub names_of : List RplForm → List (List ℕ)
names_of [] = []
names_of (OfHeader h ∷ fs) = name_of h ∷ names_of fs
names_of (_ ∷ fs) = names_of fs
