-- How a text reads as a tree: its statements one by one, each in the blocks that are open before it.
use Rattle.std.specs.Prelude.{◌≡◌, ℕ, ◌⊎◌, List, [], ◌∷◌, ◌++◌, Some, None}
use Rattle.text_words.specs.JunosCut.{junos_cut}
use Rattle.text_words.specs.declared.statement.Ender.{Ender}
use Rattle.text_words.specs.declared.statement.Ender.TheVariants.{Close}
use Rattle.text_words.specs.declared.statement.Statement.{Statement}
use Rattle.text_words.specs.declared.statement.Word.{Word}
use Rattle.junos_tree.specs.Spelling.{Spell}
use Rattle.junos_tree.specs.Tree.{other_at, opened_at, here, places_behind, item_of}
use Rattle.junos_tree.specs.declared.item.JunosForm.{JunosForm}
use Rattle.junos_tree.specs.declared.item.JunosForm.TheVariants.{Other}
use Rattle.junos_tree.specs.declared.item.JunosItem.{JunosItem}
use Rattle.junos_tree.specs.declared.item.OtherItem.{OtherItem}
use Rattle.junos_tree.specs.declared.place.Place.{Place}
use Rattle.junos_tree.specs.declared.place.Said.{Said}
use Rattle.junos_tree.specs.declared.place.Said.TheVariants.{Foreign, Opens, Says}

-- a statement at a place, which stands under this name or in the block of a definition, has this form: the one
-- that it spells, or where it spells none an Other
abbrev pub HasForm : Place → Ender → List Word → OtherItem → JunosForm → Type 0
HasForm place ender ws other form =
    Spell place ender ws form
    ⊎ (((f : JunosForm) → Spell place ender ws f → ⊥) × (form ≡ Other other))

-- what a statement at a place says: it closes a block or stands under nothing and is foreign, it opens a block
-- by a keyword alone, or it has a form
abbrev pub SaysAt : Place → Ender → List Word → Said → Type 0
SaysAt place ender ws Foreign = (ender ≡ Close) ⊎ ((opened_at place ender ws ≡ None) × (other_at place ws ≡ None))
SaysAt place ender ws (Opens inner) = opened_at place ender ws ≡ Some inner
SaysAt place ender ws (Says form) =
    (ender ≡ Close → ⊥) × (opened_at place ender ws ≡ None)
    × ((other : OtherItem) × (other_at place ws ≡ Some other) × HasForm place ender ws other form)

-- statements read as these items, where these blocks are open before them, the innermost first
abbrev pub ReadsFrom : List Place → List Statement → List JunosItem → Type 0
ReadsFrom places [] is = is ≡ []
ReadsFrom places (s ∷ ss) is =
    (said : Said) × (more : List JunosItem) × SaysAt (here places) s.ender s.words said × (is ≡ item_of said s.span ++ more)
    × ReadsFrom (places_behind s.ender said places) ss more

-- the statements of a text read as these items
abbrev pub Reads : List Statement → List JunosItem → Type 0
Reads ss is = ReadsFrom [] ss is

-- a text reads as these items: it has a cut, whose statements do
abbrev pub IsRead : List ℕ → List JunosItem → Type 0
IsRead text is = (ss : List Statement) × (junos_cut text ≡ Some ss) × Reads ss is
