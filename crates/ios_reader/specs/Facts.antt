-- What the rules of the profile look at beside an item, as tests: facts of the whole tree, and what stands before the item.
use Rattle.std.specs.Prelude.{ℕ, Bool, true, false, ◌&&◌, ◌==◌, nat_lt, List, [], ◌∷◌, Option, None}
use Rattle.std.specs.List.{list_any}
use Rattle.ios_tree.specs.Sorts.{is_line, heads}
use Rattle.ios_tree.specs.declared.item.ItemSort.{ItemSort}
use Rattle.ios_tree.specs.declared.item.IosItem.{IosItem}
use Rattle.ios_tree.specs.declared.item.MapHeader.{MapHeader as Header}
use Rattle.ios_tree.specs.declared.item.MapLine.{MapLine}
use Rattle.ios_reader.specs.Entries.{Entry, entries_of, lines_of, onto_lines}
use Rattle.ios_reader.specs.Items.{header_in, sort_code, defines, is_marked}
use Rattle.ios_reader.specs.Lines.{names_list, kind_of, continues, sets}
use Rattle.ios_reader.specs.declared.lines.Setting.{Setting}

-- the policy's name; the lists that are there; those that the lines of its map name; the marks that are there; and
-- whether an entry of its map below a number continues and sets something
pub record Facts : Type 0 where
  pub policy : List ℕ
  pub defined : ItemSort → List ℕ → Bool
  pub named : ItemSort → List ℕ → Bool
  pub marked : ItemSort → List ℕ → ℕ → Bool
  pub set_below : Setting → ℕ → Bool

-- the entry is below this number, continues, and sets this
abbrev pub sets_below : Setting → ℕ → Entry → Bool
sets_below setting n e = nat_lt e.number n && (list_any continues e.lines && list_any (sets setting) e.lines)

-- the facts of a tree
abbrev pub facts_of : List ℕ → List IosItem → Facts
facts_of name all = record {
  policy = name;
  defined = λ sort q. list_any (λ i. defines q (sort_code sort) 0 i.form) all;
  named = λ sort q. list_any (names_list q (sort_code sort) 0) (lines_of name false all);
  marked = λ sort q n. list_any (λ i. is_marked q (sort_code sort) n i.form) all;
  set_below = λ setting n. list_any (sets_below setting n) (entries_of name all);
}

-- whether the entry that is open behind these items, the nearest first, is one of the map
abbrev pub is_inside : List ℕ → List IosItem → Bool
is_inside name [] = false
is_inside name (i ∷ before) = elim (is_line i) [ true ↦ is_inside name before | false ↦ heads name i ]

-- the header of the entry that is open behind these items, the nearest first, if it has its form
abbrev pub open_header : List IosItem → Option Header
open_header [] = None
open_header (i ∷ before) = elim (is_line i) [ true ↦ open_header before | false ↦ header_in i.form ]

-- the lines of the entry that is open behind these items, the nearest first
abbrev pub open_lines : List IosItem → List MapLine
open_lines [] = []
open_lines (i ∷ before) = elim (is_line i) [ true ↦ onto_lines i.form (open_lines before) | false ↦ [] ]

-- what stands before an item: whether the entry that is open is one of the map, its header if that has its form, the
-- kinds of its lines, and the marks that are there
pub record Before : Type 0 where
  pub inside : Bool
  pub header : Option Header
  pub kinds : ℕ → Bool
  pub marked : ItemSort → List ℕ → ℕ → Bool

-- what these items are as what stands before, the nearest first
abbrev pub before_of : List ℕ → List IosItem → Before
before_of name before = record {
  inside = is_inside name before;
  header = open_header before;
  kinds = λ kind. list_any (λ l. kind == kind_of l) (open_lines before);
  marked = λ sort q n. list_any (λ i. is_marked q (sort_code sort) n i.form) before;
}
