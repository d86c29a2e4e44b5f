-- The entries of a route-map, each with the lines below its header.
use Rattle.std.specs.Prelude.{ℕ, Bool, true, false, List, [], ◌∷◌, bytes_eq}
use Rattle.ios_tree.specs.Sorts.{is_line, heads}
use Rattle.ios_tree.specs.declared.item.IosForm.{IosForm}
use Rattle.ios_tree.specs.declared.item.IosForm.TheVariants.{MapHeader, Line}
use Rattle.ios_tree.specs.declared.item.IosItem.{IosItem}
use Rattle.ios_tree.specs.declared.item.MapLine.{MapLine}

-- an entry of a route-map: its number, whether it permits, and its lines
pub record Entry : Type 0 where
  pub number : ℕ
  pub permit : Bool
  pub lines : List MapLine

-- a line in front of those behind it; a statement of no form is none
abbrev pub onto_lines : IosForm → List MapLine → List MapLine
onto_lines (Line l) rest = l ∷ rest
onto_lines _ rest = rest

-- the lines right below a header
abbrev pub lines_below : List IosItem → List MapLine
lines_below [] = []
lines_below (i ∷ is) = elim (is_line i) [ true ↦ onto_lines i.form (lines_below is) | false ↦ [] ]

-- the entry that an item heads, if it is one of the map of this name, before the entries behind it
abbrev pub entry_from : List ℕ → IosForm → List MapLine → List Entry → List Entry
entry_from name (MapHeader h) lines rest = elim (bytes_eq name h.map) [ true ↦ record { number = h.number; permit = h.permit; lines = lines } ∷ rest | false ↦ rest ]
entry_from name _ lines rest = rest

-- the entries of the map of this name, in text order
abbrev pub entries_of : List ℕ → List IosItem → List Entry
entries_of name [] = []
entries_of name (i ∷ is) = entry_from name i.form (lines_below is) (entries_of name is)

-- the lines of the map, those below a header of no form among them; `inside` says whether the first lines are lines of it
abbrev pub lines_of : List ℕ → Bool → List IosItem → List MapLine
lines_of name inside [] = []
lines_of name inside (i ∷ is) = elim (is_line i) [
  | true ↦ elim inside [ true ↦ onto_lines i.form (lines_of name true is) | false ↦ lines_of name false is ]
  | false ↦ lines_of name (heads name i) is
]
