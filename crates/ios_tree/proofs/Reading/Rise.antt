-- The spans of items rise, and lie within the text.
use Rattle.std.proofs.Common.{◌≡◌, sym, subst, ℕ, ◌<◌, ◌≤◌, Bool, false, List, [], ◌∷◌, ◌++◌, length, Result, Ok, Err, arith, inl, inr}
use Rattle.std.specs.Prelude.{IfOk}
use Rattle.text_words.specs.declared.statement.Span.{Span}
use Rattle.text_words.specs.declared.statement.Statement.{Statement}
use Rattle.text_words.specs.IosCut.{ios_cut}
use Rattle.text_words.specs.Rising.{StatementsRise}
use Rattle.text_words.proofs.Rise.{cut_rises}
use Rattle.ios_tree.specs.Reading.{ReadsFrom}
use Rattle.ios_tree.specs.Spans.{RiseFrom, SpansRise}
use Rattle.ios_tree.specs.Tree.{opens, ios_tree}
use Rattle.ios_tree.proofs.Reading.Readings.{tree_reads}
use Rattle.ios_tree.specs.declared.item.IosItem.{IosItem}

items_lower : (q p end : ℕ) (is : List IosItem) → q ≤ p → RiseFrom p end is → RiseFrom q end is
items_lower q p end [] le h = omega arith
items_lower q p end (i ∷ is) le h = (omega (arith, h.0), h.1, h.2)

-- items that statements read as stand where these do
items_rise : (p end : ℕ) (ss : List Statement) (entry_open : Bool) (before is : List IosItem) → StatementsRise p end ss → ReadsFrom entry_open before ss is → RiseFrom p end is
items_rise p end [] entry_open before is h e = subst (RiseFrom p end) (sym e) h
items_rise p end (s ∷ ss) entry_open before is h (inl (foreign, rest)) = items_lower p s.span.end end is (omega (arith, h.0, h.1)) (items_rise s.span.end end ss false before is h.2 rest)
items_rise p end (s ∷ ss) entry_open before is h (inr (sort, i, more, e, item, rest)) =
    let Rises : Span → Type 0 = λ span. (p ≤ span.start) × (span.start < span.end) × RiseFrom span.end end more in
    subst (RiseFrom p end) (sym e) (subst Rises (sym item.span) (h.0, h.1, items_rise s.span.end end ss (opens sort) (before ++ i ∷ []) more h.2 rest))

pub tree_rises : (text : List ℕ) → SpansRise (length text) (ios_tree text)
tree_rises text = items_rise 0 (length text) (ios_cut text) false [] (ios_tree text) (cut_rises text) (tree_reads text)

-- a text's tree that was made
pub read_rises : {E : Type 0} (text : List ℕ) (r : Result (List IosItem) E) → IfOk r (λ t. t ≡ ios_tree text) → IfOk r (λ t. SpansRise (length text) t)
read_rises text (Ok t) e = subst (SpansRise (length text)) (sym e) (tree_rises text)
read_rises text (Err m) e = tt
