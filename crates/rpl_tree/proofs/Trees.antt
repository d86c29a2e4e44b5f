-- The tree of a text: it reads as it, and as no other one; and the fault where it has none.
use Rattle.std.proofs.Common.{◌≡◌, refl, sym, ap, ◌∙◌, subst, ℕ, List, length, Option, Some, None, Result, Ok, Err}
use Rattle.std.specs.Prelude.{IfOk, IfErr}
use Rattle.text_words.specs.RplCut.{rpl_cut}
use Rattle.text_words.proofs.RplRise.{rpl_starts_rise}
use Rattle.text_words.specs.declared.fault.TextFault.{TextFault}
use Rattle.text_words.specs.declared.fault.TextFault.TheVariants.{Broken, Memory}
use Rattle.text_words.specs.declared.statement.Statement.{Statement}
use Rattle.rpl_forms.specs.declared.item.RplItem.{RplItem}
use Rattle.rpl_tree.specs.Blocks.{outside}
use Rattle.rpl_tree.specs.Broken.{IsWhole, IsFault, IsFirst, BreakAsTold, broken}
use Rattle.rpl_tree.specs.Reading.{ReadsFrom, Reads, HasNoTree}
use Rattle.rpl_tree.specs.Spans.{SpansRise}
use Rattle.rpl_tree.specs.Tree.{items_of, tree_or, tree_in, Gives, rpl_tree}
use Rattle.rpl_tree.proofs.Faults.{found_first, none_found}
use Rattle.rpl_tree.proofs.Readings.{reads_items, only_items, one_reading}
use Rattle.rpl_tree.proofs.Rise.{items_rise}

-- ---- trees

pub one_tree : (ss : List Statement) (is js : List RplItem) → Reads ss is → Reads ss js → is ≡ js
one_tree ss is js h k = one_reading ss is js h.1 k.1

some_tree : (ss : List Statement) (is items : List RplItem) (o : Option TextFault) → broken ss ≡ o → tree_or o items ≡ Some is → (broken ss ≡ None) × (is ≡ items)
some_tree ss is items None e h = (e, cc)
some_tree ss is items (Some fault) e h = absurd cc

-- where there is a tree, there is no fault, and the tree is of the items
tree_is : (ss : List Statement) (is : List RplItem) → tree_in ss ≡ Some is → (broken ss ≡ None) × (is ≡ items_of None ss)
unfolding tree_in
tree_is ss is e = some_tree ss is (items_of None ss) (broken ss) refl e

pub found_reads : (ss : List Statement) (is : List RplItem) → tree_in ss ≡ Some is → Reads ss is
found_reads ss is e =
    let parts = tree_is ss is e in
    (none_found ss outside parts.0, subst (ReadsFrom None ss) (sym parts.1) (reads_items ss None))

told_somewhere : (ss : List Statement) (fault : TextFault) → IsFirst outside ss fault → IsWhole ss → ⊥
told_somewhere ss (Broken span kind) h whole = whole h.before h.statement kind h.here
told_somewhere ss Memory h whole = h

none_told : (ss : List Statement) (o : Option TextFault) → broken ss ≡ o → IsWhole ss → o ≡ None
none_told ss None e whole = refl
none_told ss (Some fault) e whole = absurd (told_somewhere ss fault (found_first ss outside fault e) whole)

-- statements that are broken nowhere have no fault
pub whole_none : (ss : List Statement) → IsWhole ss → broken ss ≡ None
whole_none ss whole = none_told ss (broken ss) refl whole

pub read_found : (ss : List Statement) (is : List RplItem) → Reads ss is → tree_in ss ≡ Some is
unfolding tree_in
read_found ss is h =
    ap (λ (o : Option TextFault). tree_or o (items_of None ss)) (whole_none ss h.0)
    ∙ ap (λ (x : List RplItem). Some x) (sym (only_items ss None is h.1))

-- ---- what a result tells

pub gives_tree : (text : List ℕ) (r : Result (List RplItem) TextFault) → Gives (rpl_cut text) r → IfOk r (λ t. rpl_tree text ≡ Some t)
gives_tree text (Ok t) h = h
gives_tree text (Err fault) h = tt

pub gives_reading : (text : List ℕ) (r : Result (List RplItem) TextFault) → Gives (rpl_cut text) r → IfOk r (λ t. Reads (rpl_cut text) t)
gives_reading text (Ok t) h = found_reads (rpl_cut text) t h
gives_reading text (Err fault) h = tt

pub gives_rise : (text : List ℕ) (r : Result (List RplItem) TextFault) → Gives (rpl_cut text) r → IfOk r (λ t. SpansRise (length text) t)
gives_rise text (Ok t) h =
    let parts = tree_is (rpl_cut text) t h in
    subst (SpansRise (length text)) (sym parts.1) (items_rise (rpl_cut text) None 0 (length text) (rpl_starts_rise text))
gives_rise text (Err fault) h = tt

pub gives_fault : (text : List ℕ) (r : Result (List RplItem) TextFault) → Gives (rpl_cut text) r → IfErr r (IsFault (broken (rpl_cut text)))
gives_fault text (Ok t) h = tt
gives_fault text (Err fault) h = h

told_first : (ss : List Statement) (fault : TextFault) → IsFault (broken ss) fault → BreakAsTold ss fault
told_first ss (Broken span kind) h = found_first ss outside (Broken span kind) h
told_first ss Memory h = tt

pub gives_first : (text : List ℕ) (r : Result (List RplItem) TextFault) → Gives (rpl_cut text) r → IfErr r (BreakAsTold (rpl_cut text))
gives_first text (Ok t) h = tt
gives_first text (Err fault) h = told_first (rpl_cut text) fault h

told_none : (ss : List Statement) (fault : TextFault) → IsFault (broken ss) fault → HasNoTree ss fault
told_none ss (Broken span kind) h = λ is reads. let none = whole_none ss reads.0 in cc
told_none ss Memory h = tt

pub gives_none : (text : List ℕ) (r : Result (List RplItem) TextFault) → Gives (rpl_cut text) r → IfErr r (HasNoTree (rpl_cut text))
gives_none text (Ok t) h = tt
gives_none text (Err fault) h = told_none (rpl_cut text) fault h
