-- How a text reads as a tree: its statements one by one, an entry being open before each or not, and the
-- items that stand before it. What belongs to no policy is foreign and dropped.
use Rattle.std.specs.Prelude.{◌≡◌, ℕ, Bool, true, false, ◌⊎◌, List, [], ◌∷◌, ◌++◌, Some, None}
use Rattle.text_words.specs.declared.statement.Statement.{Statement}
use Rattle.policy_text.specs.Phrases.{texts}
use Rattle.ios_tree.specs.Sorts.{sort_of_form}
use Rattle.ios_tree.specs.Spelling.{Spell}
use Rattle.ios_tree.specs.Tree.{sort_of, opens, name_under, numbered}
use Rattle.ios_tree.specs.declared.item.IosForm.{IosForm}
use Rattle.ios_tree.specs.declared.item.IosForm.TheVariants.{Other}
use Rattle.ios_tree.specs.declared.item.IosItem.{IosItem}
use Rattle.ios_tree.specs.declared.item.ItemSort.{ItemSort}
use Rattle.ios_tree.specs.declared.item.ItemSort.TheVariants.{Line}

-- words spell a form of this sort
abbrev pub SpellsAs : ItemSort → List (List ℕ) → IosForm → Type 0
SpellsAs sort ws form = Spell ws form × (sort_of_form form ≡ sort)

-- the words of a statement of this sort spell this form; where they spell none of the sort, it is an Other
-- under its name
abbrev pub Says : ItemSort → List (List ℕ) → IosForm → Type 0
Says sort ws form = SpellsAs sort ws form ⊎ (((other : IosForm) → SpellsAs sort ws other → ⊥) × (form ≡ Other (record { sort = sort; name = name_under sort ws })))

-- the statement belongs to no policy: its first words are none of a policy's, or it is a line where no entry
-- is open
abbrev pub IsForeign : Bool → Statement → Type 0
IsForeign entry_open s =
    (sort_of s.depth (texts s.words) ≡ None) ⊎ ((sort_of s.depth (texts s.words) ≡ Some Line) × (entry_open ≡ false))

-- the statement is an item of this sort behind those before it: what its words say, with its number, and its
-- span; a line stands only where an entry is open
pub record IsItem (entry_open : Bool) (before : List IosItem) (s : Statement) (sort : ItemSort) (i : IosItem) : Type 0 where
  pub sorted : sort_of s.depth (texts s.words) ≡ Some sort
  pub placed : sort ≡ Line → entry_open ≡ true
  pub written : IosForm
  pub says : Says sort (texts s.words) written
  pub form : i.form ≡ numbered before written
  pub span : i.span ≡ s.span

-- statements read as these items, behind those before them
abbrev pub ReadsFrom : Bool → List IosItem → List Statement → List IosItem → Type 0
ReadsFrom entry_open before [] is = is ≡ []
ReadsFrom entry_open before (s ∷ ss) is =
    (IsForeign entry_open s × ReadsFrom false before ss is)
    ⊎ ((sort : ItemSort) × (i : IosItem) × (more : List IosItem) × (is ≡ i ∷ more) × IsItem entry_open before s sort i × ReadsFrom (opens sort) (before ++ i ∷ []) ss more)

-- the statements of a text read as these items
abbrev pub Reads : List Statement → List IosItem → Type 0
Reads ss is = ReadsFrom false [] ss is
