-- The spans of items rise: each starts before it ends, at or after the end of the one before it, and
-- the last ends within the text.
use Rattle.std.specs.Prelude.{ℕ, ◌≤◌, ◌<◌, List, [], ◌∷◌}
use Rattle.junos_tree.specs.declared.item.JunosItem.{JunosItem}

-- the spans from this place on rise, up to this end
abbrev pub RiseFrom : ℕ → ℕ → List JunosItem → Type 0
RiseFrom place end [] = place ≤ end
RiseFrom place end (i ∷ is) = (place ≤ i.span.start) × (i.span.start < i.span.end) × RiseFrom i.span.end end is

-- the spans of the items of a text of this length rise
abbrev pub SpansRise : ℕ → List JunosItem → Type 0
SpansRise end items = RiseFrom 0 end items
