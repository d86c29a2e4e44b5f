-- The spans of items rise, and lie within the text.
use Rattle.std.proofs.Common.{ℕ, ◌≤◌, Bool, true, false, List, [], ◌∷◌, Option, Some, None, arith}
use Rattle.text_words.specs.Rising.{StartsRise}
use Rattle.text_words.specs.declared.rpl_blocks.BlockKind.{BlockKind}
use Rattle.text_words.specs.declared.statement.Statement.{Statement}
use Rattle.rpl_forms.specs.declared.item.RplItem.{RplItem}
use Rattle.rpl_tree.specs.Blocks.{opens, ends_block}
use Rattle.rpl_tree.specs.Spans.{RiseFrom}
use Rattle.rpl_tree.specs.Tree.{header_item, statement_item, end_item, items_of}

rise_lower : (q p end : ℕ) (is : List RplItem) → q ≤ p → RiseFrom p end is → RiseFrom q end is
rise_lower q p end [] le h = tt
rise_lower q p end (i ∷ is) le h = (omega (arith, h.0), h.1, h.2, h.3)

line_rises : (p end : ℕ) (s : Statement) (ss : List Statement) (o : Option BlockKind) → StartsRise p end (s ∷ ss) → ((block : Option BlockKind) → RiseFrom s.span.start end (items_of block ss))
    → RiseFrom p end (elim o [ None ↦ items_of None ss | Some kind ↦ header_item kind s ∷ items_of (Some kind) ss ])
unfolding header_item
line_rises p end s ss None h rest = rise_lower p s.span.start end (items_of None ss) h.0 (rest None)
line_rises p end s ss (Some kind) h rest = (h.0, h.1, h.2, rest (Some kind))

within_rises : (p end : ℕ) (kind : BlockKind) (s : Statement) (ss : List Statement) (b : Bool) → StartsRise p end (s ∷ ss) → ((block : Option BlockKind) → RiseFrom s.span.start end (items_of block ss))
    → RiseFrom p end (elim b [ true ↦ end_item s ∷ items_of None ss | false ↦ statement_item kind s ∷ items_of (Some kind) ss ])
unfolding statement_item
within_rises p end kind s ss true h rest = (h.0, h.1, h.2, rest None)
within_rises p end kind s ss false h rest = (h.0, h.1, h.2, rest (Some kind))

-- the items of statements rise where these do
pub items_rise : (ss : List Statement) (block : Option BlockKind) (p end : ℕ) → StartsRise p end ss → RiseFrom p end (items_of block ss)
unfolding items_of
items_rise [] block p end h = tt
items_rise (s ∷ ss) None p end h = line_rises p end s ss (opens s.words) h (λ block. items_rise ss block s.span.start end h.3)
items_rise (s ∷ ss) (Some kind) p end h = within_rises p end kind s ss (ends_block kind s.words) h (λ block. items_rise ss block s.span.start end h.3)
