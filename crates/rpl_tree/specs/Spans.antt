-- The spans of items rise: none is empty, each starts at or behind the start of the one before it, and all
-- end within the text. (Two empty elements beside one comma both have its span.)
use Rattle.std.specs.Prelude.{ℕ, ◌≤◌, ◌<◌, List, [], ◌∷◌}
use Rattle.rpl_forms.specs.declared.item.RplItem.{RplItem}

-- the spans rise from this place on, and end within the first `end` bytes
abbrev pub RiseFrom : ℕ → ℕ → List RplItem → Type 0
RiseFrom place end [] = Unit {0}
RiseFrom place end (i ∷ is) = (place ≤ i.span.start) × (i.span.start < i.span.end) × (i.span.end ≤ end) × RiseFrom i.span.start end is

-- the spans of the items of a text of this length rise
abbrev pub SpansRise : ℕ → List RplItem → Type 0
SpansRise end items = RiseFrom 0 end items
