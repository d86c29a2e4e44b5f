-- A text reads as its tree, and as no other one.
use Rattle.std.proofs.Common.{◌≡◌, refl, sym, ap, ◌∙◌, subst, ℕ, Bool, true, false, List, [], ◌∷◌, ◌++◌, Option, Some, None, Result, Ok, Err, inl, inr}
use Rattle.std.specs.Prelude.{IfOk}
use Rattle.text_words.specs.declared.statement.Statement.{Statement}
use Rattle.text_words.specs.IosCut.{ios_cut}
use Rattle.policy_text.specs.Names.{or_else}
use Rattle.policy_text.specs.Phrases.{texts}
use Rattle.ios_tree.specs.Reading.{SpellsAs, Says, IsItem, ReadsFrom, Reads}
use Rattle.ios_tree.specs.Tree.{sort_of, belongs, opens, name_under, known_form, form_of, items_of, numbered, numbered_item, numbered_from, ios_tree}
use Rattle.ios_tree.specs.declared.item.IosForm.{IosForm}
use Rattle.ios_tree.specs.declared.item.IosForm.TheVariants.{Other}
use Rattle.ios_tree.specs.declared.item.IosItem.{IosItem}
use Rattle.ios_tree.specs.declared.item.ItemSort.{ItemSort}
use Rattle.ios_tree.specs.declared.item.ItemSort.TheVariants.{Line}
use Rattle.ios_tree.proofs.Spelled.{known_found, known_only}

-- ---- what a statement says

-- an Other of this sort under its name
abbrev other : ItemSort → List (List ℕ) → IosForm
other sort ws = Other (record { sort = sort; name = name_under sort ws })

says_here : (sort : ItemSort) (ws : List (List ℕ)) (o : Option IosForm) → known_form sort ws ≡ o → Says sort ws (or_else o (other sort ws))
says_here sort ws (Some form) e = inl (known_found sort ws form e)
says_here sort ws None e = inr (λ form h. let k : ◌≡◌ {A = Option IosForm} None (Some form) = sym e ∙ known_only sort ws form h in cc, refl)

says_form : (sort : ItemSort) (ws : List (List ℕ)) → Says sort ws (form_of sort ws)
unfolding form_of
says_form sort ws = says_here sort ws (known_form sort ws) refl

none_said : (sort : ItemSort) (ws : List (List ℕ)) (o : Option IosForm) → known_form sort ws ≡ o → ((form : IosForm) → SpellsAs sort ws form → ⊥)
    → or_else o (other sort ws) ≡ other sort ws
none_said sort ws (Some form) e none = absurd (none form (known_found sort ws form e))
none_said sort ws None e none = refl

one_form : (sort : ItemSort) (ws : List (List ℕ)) (form : IosForm) → Says sort ws form → form ≡ form_of sort ws
unfolding form_of
one_form sort ws form (inl h) = ap (λ (o : Option IosForm). or_else o (other sort ws)) (sym (known_only sort ws form h))
one_form sort ws form (inr (none, e)) = e ∙ sym (none_said sort ws (known_form sort ws) refl none)

-- ---- the items of statements

belongs_placed : (entry_open : Bool) (sort : ItemSort) → belongs entry_open sort ≡ true → sort ≡ Line → entry_open ≡ true
belongs_placed entry_open Line b e = b
belongs_placed entry_open _ b e = cc

placed_belongs : (entry_open : Bool) (sort : ItemSort) → (sort ≡ Line → entry_open ≡ true) → belongs entry_open sort ≡ true
placed_belongs entry_open Line h = h refl
placed_belongs entry_open _ h = refl

not_placed : (entry_open : Bool) (sort : ItemSort) → belongs entry_open sort ≡ false → (sort ≡ Line) × (entry_open ≡ false)
not_placed entry_open Line b = (refl, b)
not_placed entry_open _ b = absurd cc

-- the item of a statement of this sort, as it is written
abbrev item_of : ItemSort → Statement → IosItem
item_of sort s = record { form = form_of sort (texts s.words); span = s.span }

reads_sort : (entry_open : Bool) (before : List IosItem) (s : Statement) (ss : List Statement) (sort : ItemSort) (b : Bool) → sort_of s.depth (texts s.words) ≡ Some sort
    → belongs entry_open sort ≡ b
    → ((after : Bool) (items : List IosItem) → ReadsFrom after items ss (numbered_from items (items_of after ss)))
    → ReadsFrom entry_open before (s ∷ ss) (numbered_from before (elim b [ true ↦ item_of sort s ∷ items_of (opens sort) ss | false ↦ items_of false ss ]))
unfolding numbered_from
reads_sort entry_open before s ss sort true e b rest =
    let i = numbered_item before (item_of sort s) in
    inr (
      sort,
      i,
      numbered_from (before ++ i ∷ []) (items_of (opens sort) ss),
      refl,
      record {
        sorted = e;
        placed = belongs_placed entry_open sort b;
        written = form_of sort (texts s.words);
        says = says_form sort (texts s.words);
        form = refl;
        span = refl;
      },
      rest (opens sort) (before ++ i ∷ []),
    )
reads_sort entry_open before s ss sort false e b rest =
    let k = not_placed entry_open sort b in
    inl (inr (e ∙ ap (λ (x : ItemSort). Some x) k.0, k.1), rest false before)

reads_statement : (entry_open : Bool) (before : List IosItem) (s : Statement) (ss : List Statement) (o : Option ItemSort) → sort_of s.depth (texts s.words) ≡ o
    → ((after : Bool) (items : List IosItem) → ReadsFrom after items ss (numbered_from items (items_of after ss)))
    → ReadsFrom entry_open before (s ∷ ss) (numbered_from before (elim o [
      | None ↦ items_of false ss
      | Some sort ↦ elim (belongs entry_open sort) [ true ↦ item_of sort s ∷ items_of (opens sort) ss | false ↦ items_of false ss ]
    ]))
reads_statement entry_open before s ss None e rest = inl (inl e, rest false before)
reads_statement entry_open before s ss (Some sort) e rest = reads_sort entry_open before s ss sort (belongs entry_open sort) e refl rest

-- statements read as their items with their numbers
reads_items : (ss : List Statement) (entry_open : Bool) (before : List IosItem) → ReadsFrom entry_open before ss (numbered_from before (items_of entry_open ss))
unfolding items_of numbered_from
reads_items [] entry_open before = refl
reads_items (s ∷ ss) entry_open before = reads_statement entry_open before s ss (sort_of s.depth (texts s.words)) refl (reads_items ss)

one_item : (before : List IosItem) (s : Statement) (sort : ItemSort) (entry_open : Bool) (i : IosItem) → IsItem entry_open before s sort i → i ≡ numbered_item before (item_of sort s)
one_item before s sort entry_open i h =
    let written = one_form sort (texts s.words) h.written h.says in
    let form = h.form ∙ ap (λ (f : IosForm). numbered before f) written in
    let span = h.span in
    λ j. record { form = form j; span = span j }

-- ... and as no others
only_items : (ss : List Statement) (entry_open : Bool) (before is : List IosItem) → ReadsFrom entry_open before ss is → is ≡ numbered_from before (items_of entry_open ss)
unfolding items_of numbered_from
only_items [] entry_open before is e = e
only_items (s ∷ ss) entry_open before is (inl (inl e, h)) = rw (e, items_of) (only_items ss false before is h)
only_items (s ∷ ss) entry_open before is (inl (inr (e, shut), h)) = rw (e, items_of) (rw shut (only_items ss false before is h))
only_items (s ∷ ss) entry_open before is (inr (sort, i, more, e, item, h)) =
    let one = one_item before s sort entry_open i item in
    rw (item.sorted, items_of) (rw (placed_belongs entry_open sort item.placed) (
    e ∙ ap (λ (xs : List IosItem). i ∷ xs) (only_items ss (opens sort) (before ++ i ∷ []) more h)
    ∙ ap (λ (x : IosItem). x ∷ numbered_from (before ++ x ∷ []) (items_of (opens sort) ss)) one))

-- ---- texts

pub tree_reads : (text : List ℕ) → Reads (ios_cut text) (ios_tree text)
unfolding ios_tree
tree_reads text = reads_items (ios_cut text) false []

-- a text reads as at most one tree
pub one_reading : (ss : List Statement) (is js : List IosItem) → Reads ss is → Reads ss js → is ≡ js
one_reading ss is js h k = only_items ss false [] is h ∙ sym (only_items ss false [] js k)

-- a text's tree that was made
pub read_reads : {E : Type 0} (text : List ℕ) (r : Result (List IosItem) E) → IfOk r (λ t. t ≡ ios_tree text) → IfOk r (λ t. Reads (ios_cut text) t)
read_reads text (Ok t) e = subst (Reads (ios_cut text)) (sym e) (tree_reads text)
read_reads text (Err m) e = tt
