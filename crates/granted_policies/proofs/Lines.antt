-- What holds of the lines of a route-map's entries: what holds of the items, and what the table grants.
use Rattle.std.proofs.Common.{◌≡◌, refl, ℕ, Bool, true, false, List, [], ◌∷◌, Option, Some, None}
use Rattle.std.specs.Prelude.{IfSome, bytes_eq}
use Rattle.std.specs.List.{AllByRecursion}
use Rattle.text_words.specs.declared.statement.Span.{Span}
use Rattle.ios_tree.specs.Sorts.{is_line}
use Rattle.ios_tree.specs.declared.item.IosForm.{IosForm}
use Rattle.ios_tree.specs.declared.item.IosForm.TheVariants.{MapHeader, Line}
use Rattle.ios_tree.specs.declared.item.IosItem.{IosItem}
use Rattle.ios_tree.specs.declared.item.MapHeader.{MapHeader as Header}
use Rattle.ios_tree.specs.declared.item.MapLine.{MapLine}
use Rattle.ios_reader.specs.Entries.{Entry, onto_lines, lines_below, entry_from, entries_of}
use Rattle.expressible_table.specs.Grants.{grants}
use Rattle.expressible_table.specs.Kinds.{kind_of}
use Rattle.expressible_table.specs.Constructs.{put, put_line, put_lines, put_entry, entries_in}
use Rattle.expressible_table.specs.Missing.{AllGranted}
use Rattle.expressible_table.specs.declared.construct.Construct.{Construct}
use Rattle.expressible_table.specs.declared.kind.Dialect.{Dialect}
use Rattle.expressible_table.specs.declared.kind.Kind.{Kind}
use Rattle.expressible_table.specs.declared.kind.Kind.TheVariants.{Flow}

-- each line of each entry is such
abbrev pub AreSuch : (MapLine → Type 0) → List Entry → Type 0
AreSuch P es = AllByRecursion (λ e. AllByRecursion P e.lines) es

-- ---- what holds of the items

abbrev pub FormIs : (MapLine → Type 0) → IosForm → Type 0
FormIs P (Line l) = P l
FormIs P _ = Unit {0}

module _ (P : MapLine → Type 0) where
  onto_such : (b : Bool) (form : IosForm) (lines : List MapLine) → FormIs P form → AllByRecursion P lines → AllByRecursion P (elim b [ true ↦ onto_lines form lines | false ↦ [] ])
  onto_such true (Line l) lines here behind = (here, behind)
  onto_such true _ lines here behind = behind
  onto_such false form lines here behind = tt

  lines_such : (is : List IosItem) → AllByRecursion (λ i. FormIs P i.form) is → AllByRecursion P (lines_below is)
  lines_such [] h = tt
  lines_such (i ∷ is) h = onto_such (is_line i) i.form (lines_below is) h.0 (lines_such is h.1)

  header_such : (b : Bool) (h : Header) (lines : List MapLine) (rest : List Entry) → (b ≡ true → AllByRecursion P lines) → AreSuch P rest
      → AreSuch P (elim b [ true ↦ record { number = h.number; permit = h.permit; lines = lines } ∷ rest | false ↦ rest ])
  header_such true h lines rest here behind = (here refl, behind)
  header_such false h lines rest here behind = behind

  entry_such : (name : List ℕ) (form : IosForm) (lines : List MapLine) (rest : List Entry) → AllByRecursion P lines → AreSuch P rest → AreSuch P (entry_from name form lines rest)
  entry_such name (MapHeader h) lines rest here behind = header_such (bytes_eq name h.map) h lines rest (λ e. here) behind
  entry_such name _ lines rest here behind = behind

  pub entries_such : (name : List ℕ) (is : List IosItem) → AllByRecursion (λ i. FormIs P i.form) is → AreSuch P (entries_of name is)
  entries_such name [] h = tt
  entries_such name (i ∷ is) h = entry_such name i.form (lines_below is) (entries_of name is) (lines_such is h.1) (entries_such name is h.1)

-- ---- what the table grants

-- a line's kind is granted, if it is a construct
abbrev pub IsGrantedLine : Dialect → List IosItem → MapLine → Type 0
IsGrantedLine target all l = IfSome (kind_of all l) (λ k. grants k target ≡ true)

module _ (target : Dialect) (all : List IosItem) where
  put_granted : (o : Option Kind) (span : Span) (rest : List Construct) → AllGranted target (put o span rest) → IfSome o (λ k. grants k target ≡ true) × AllGranted target rest
  put_granted (Some kind) span rest h = (h.0, h.1)
  put_granted None span rest h = (tt, h)

  -- lines are granted, and what stands behind them
  abbrev Lines : List MapLine → List Construct → Type 0
  Lines lines rest = AllByRecursion (IsGrantedLine target all) lines × AllGranted target rest

  onto_granted : (form : IosForm) (span : Span) (lines : List MapLine) (cs rest : List Construct) → (AllGranted target cs → Lines lines rest) → AllGranted target (put_line all form span cs)
      → Lines (onto_lines form lines) rest
  onto_granted (Line l) span lines cs rest more h =
      let k = put_granted (kind_of all l) span cs h in
      let m = more k.1 in
      ((k.0, m.0), m.1)
  onto_granted _ span lines cs rest more h = more h

  first_granted : (b : Bool) (form : IosForm) (span : Span) (lines : List MapLine) (cs rest : List Construct) → (AllGranted target cs → Lines lines rest)
      → AllGranted target (elim b [ true ↦ put_line all form span cs | false ↦ rest ]) → Lines (elim b [ true ↦ onto_lines form lines | false ↦ [] ]) rest
  first_granted true form span lines cs rest more h = onto_granted form span lines cs rest more h
  first_granted false form span lines cs rest more h = (tt, h)

  lines_granted : (is : List IosItem) (rest : List Construct) → AllGranted target (put_lines all is rest) → Lines (lines_below is) rest
  lines_granted [] rest h = (tt, h)
  lines_granted (i ∷ is) rest h = first_granted (is_line i) i.form i.span (lines_below is) (put_lines all is rest) rest (lines_granted is rest) h

  header_granted : (b : Bool) (m : Header) (span : Span) (lines : List MapLine) (entries : List Entry) (cs rest : List Construct) → (AllGranted target cs → Lines lines rest)
      → (AllGranted target rest → AreSuch (IsGrantedLine target all) entries) → AllGranted target (elim b [ true ↦ put (Some Flow) span cs | false ↦ rest ])
      → AreSuch (IsGrantedLine target all) (elim b [ true ↦ record { number = m.number; permit = m.permit; lines = lines } ∷ entries | false ↦ entries ])
  header_granted true m span lines entries cs rest more behind h = let k = more h.1 in (k.0, behind k.1)
  header_granted false m span lines entries cs rest more behind h = behind h

  entry_granted : (name : List ℕ) (form : IosForm) (span : Span) (lines : List MapLine) (entries : List Entry) (cs rest : List Construct) → (AllGranted target cs → Lines lines rest)
      → (AllGranted target rest → AreSuch (IsGrantedLine target all) entries) → AllGranted target (put_entry name form span cs rest)
      → AreSuch (IsGrantedLine target all) (entry_from name form lines entries)
  entry_granted name (MapHeader m) span lines entries cs rest more behind h = header_granted (bytes_eq name m.map) m span lines entries cs rest more behind h
  entry_granted name _ span lines entries cs rest more behind h = behind h

  pub entries_granted : (name : List ℕ) (is : List IosItem) → AllGranted target (entries_in all name is) → AreSuch (IsGrantedLine target all) (entries_of name is)
  entries_granted name [] h = tt
  entries_granted name (i ∷ is) h =
      let rest = entries_in all name is in
      entry_granted name i.form i.span (lines_below is) (entries_of name is) (put_lines all is rest) rest (lines_granted is rest) (entries_granted name is) h
