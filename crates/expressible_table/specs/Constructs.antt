-- The constructs of a policy in the order of the text, each with the span of its statement.
use Rattle.std.specs.Prelude.{ℕ, ◌≤◌, ◌<◌, true, false, List, [], ◌∷◌, Option, Some, None, bytes_eq}
use Rattle.text_words.specs.declared.statement.Span.{Span}
use Rattle.ios_tree.specs.Sorts.{is_line}
use Rattle.ios_tree.specs.declared.item.IosForm.{IosForm}
use Rattle.ios_tree.specs.declared.item.IosForm.TheVariants.{MapHeader, Line}
use Rattle.ios_tree.specs.declared.item.IosItem.{IosItem}
use Rattle.expressible_table.specs.Kinds.{kind_of}
use Rattle.expressible_table.specs.declared.construct.Construct.{Construct}
use Rattle.expressible_table.specs.declared.kind.Kind.{Kind}
use Rattle.expressible_table.specs.declared.kind.Kind.TheVariants.{Flow}
use Rattle.expressible_table.specs.declared.policy.Policy.{Policy}
use Rattle.expressible_table.specs.declared.policy.Policy.TheVariants.{Ios}

-- a statement of this kind, if it is a construct, before the constructs behind it
abbrev pub put : Option Kind → Span → List Construct → List Construct
put (Some kind) span rest = record { kind = kind; span = span } ∷ rest
put None span rest = rest

-- a line of an entry, before the constructs behind it; a statement of no form is none
abbrev pub put_line : List IosItem → IosForm → Span → List Construct → List Construct
put_line all (Line l) span rest = put (kind_of all l) span rest
put_line all _ span rest = rest

-- the lines right below a header, before the constructs behind them
abbrev pub put_lines : List IosItem → List IosItem → List Construct → List Construct
put_lines all [] rest = rest
put_lines all (i ∷ is) rest = elim (is_line i) [ true ↦ put_line all i.form i.span (put_lines all is rest) | false ↦ rest ]

-- the header of an entry of the route-map of this name, before its lines and what stands behind them; without it the rest
abbrev pub put_entry : List ℕ → IosForm → Span → List Construct → List Construct → List Construct
put_entry name (MapHeader h) span lines rest = elim (bytes_eq name h.map) [ true ↦ put (Some Flow) span lines | false ↦ rest ]
put_entry name _ span lines rest = rest

-- the entries of the route-map of this name among some items of a tree
abbrev pub entries_in : List IosItem → List ℕ → List IosItem → List Construct
entries_in all name [] = []
entries_in all name (i ∷ is) = put_entry name i.form i.span (put_lines all is (entries_in all name is)) (entries_in all name is)

-- the constructs of the route-map of this name in a tree
abbrev pub map_constructs : List ℕ → List IosItem → List Construct
map_constructs name all = entries_in all name all

-- the constructs of the route-map of the one name
abbrev pub named_constructs : List (List ℕ) → List IosItem → List Construct
named_constructs [] all = []
named_constructs (name ∷ names) all = map_constructs name all

-- the constructs of a policy
unfoldable pub constructs_of : Policy → List Construct
constructs_of (Ios policy) = named_constructs policy.names policy.items

-- the spans of constructs from this place on rise, up to this end
abbrev pub RiseFrom : ℕ → ℕ → List Construct → Type 0
RiseFrom place end [] = place ≤ end
RiseFrom place end (c ∷ cs) = (place ≤ c.span.start) × (c.span.start < c.span.end) × RiseFrom c.span.end end cs
