-- Maps of blocks and of words.
use Rattle.std.proofs.Common.{◌≡◌, sym, ap, ◌∙◌, ℕ, ◌<◌, Bool, true, false, List, [], ◌∷◌, Option, Some, None, length, arith}
use Rattle.std.specs.Prelude.{bytes_eq, Result, Ok, Err, IfOk, OnOk}
use Rattle.std.specs.Borrow.{Bor}
use Rattle.std.specs.Option.{option_map_or}
use Rattle.name_maps.specs.Under.{under, first_of}
use Rattle.rpl_forms.specs.declared.item.RplForm.{RplForm}
use Rattle.rpl_forms.specs.declared.item.RplItem.{RplItem}
use Rattle.rpl_meaning.specs.Sets.{Naming, is_name, block_at}
use Rattle.rpl_tree.specs.Tree.{forms}
use Rattle.rpl_meaning.specs.Blocks.{BlockMap, block_or, Tells, Goes}

abbrev forms_in : Option (Bor (List RplItem)) → List RplForm → List RplForm
forms_in o rest = option_map_or (λ b. forms b.now) o rest

-- a block that is found stands in front of those behind it
added_by : (o n : Option (Bor (List RplItem))) (block : Bor (List RplItem)) (rest : List RplForm) (b : Bool)
    → n ≡ elim b [ true ↦ first_of o block | false ↦ o ]
    → forms_in n rest ≡ forms_in o (elim b [ true ↦ forms block.now | false ↦ rest ])
added_by (Some x) n block rest true e = ap (λ (m : Option (Bor (List RplItem))). forms_in m rest) e
added_by None n block rest true e = ap (λ (m : Option (Bor (List RplItem))). forms_in m rest) e
added_by (Some x) n block rest false e = ap (λ (m : Option (Bor (List RplItem))). forms_in m rest) e
added_by None n block rest false e = ap (λ (m : Option (Bor (List RplItem))). forms_in m rest) e

-- the map behind a first line of this name
pub added : (named : Naming) (old new : BlockMap) (name q : List ℕ) (block : Bor (List RplItem)) (i : RplItem) (tail : List RplItem)
    → block.now ≡ i ∷ tail → named i.form ≡ Some name → under new q ≡ elim (bytes_eq q name) [ true ↦ first_of (under old q) block | false ↦ under old q ]
    → block_or new q (block_at named q (forms tail)) ≡ block_or old q (block_at named q (forms (i ∷ tail)))
unfolding block_at
added named old new name q block i tail is here put =
    added_by (under old q) (under new q) block (block_at named q (forms tail)) (bytes_eq q name) put
    ∙ ap (λ (fs : List RplForm). block_or old q (elim (bytes_eq q name) [ true ↦ fs | false ↦ block_at named q (forms tail) ])) (ap (λ (is : List RplItem). forms is) is)
    ∙ ap (λ (o : Option (List ℕ)). block_or old q (elim (is_name q o) [ true ↦ forms (i ∷ tail) | false ↦ block_at named q (forms tail) ])) (sym here)

-- the map behind a form that is no first line of the sort
pub passed : (named : Naming) (m : BlockMap) (q : List ℕ) (i : RplItem) (tail : List RplItem) → named i.form ≡ None
    → block_or m q (block_at named q (forms tail)) ≡ block_or m q (block_at named q (forms (i ∷ tail)))
unfolding block_at
passed named m q i tail none = ap (λ (o : Option (List ℕ)). block_or m q (elim (is_name q o) [ true ↦ forms (i ∷ tail) | false ↦ block_at named q (forms tail) ])) (sym none)

-- what follows where a result is Ok
pub on_ok : {X E : Type 0} (r : Result X E) (P Q : Type 0) → (P → Q) → IfOk r (λ _. P) → OnOk r Q
on_ok (Ok x) P Q f h = f h
on_ok (Err e) P Q f h = tt

-- the items behind a block's first line, in the words of the code
pub in_front : (named : Naming) (m : BlockMap) (q : List ℕ) (rest : List RplItem) (i : RplItem) (tail : List RplItem) → rest ≡ i ∷ tail
    → block_or m q (block_at named q (forms (i ∷ tail))) ≡ block_or m q (block_at named q (forms rest))
in_front named m q rest i tail is = ap (λ (items : List RplItem). block_or m q (block_at named q (forms items))) (sym is)

-- where no item is left, the map has the block of each name
pub told : (named : Naming) (m : BlockMap) (rest items : List RplItem) → length rest < 1 → Goes named m rest items → Tells named m items
unfolding block_at
told named m [] items short h = h
told named m (i ∷ rest) items short h = absurd (omega arith)
