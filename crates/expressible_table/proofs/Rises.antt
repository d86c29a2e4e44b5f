-- The spans of constructs rise where those of the items do.
use Rattle.std.proofs.Common.{ℕ, ◌≤◌, ◌<◌, Bool, true, false, List, [], ◌∷◌, Option, Some, None, arith}
use Rattle.std.specs.Prelude.{bytes_eq}
use Rattle.text_words.specs.declared.statement.Span.{Span}
use Rattle.ios_tree.specs.Spans.{RiseFrom as ItemsRiseFrom, SpansRise}
use Rattle.ios_tree.specs.declared.item.IosForm.{IosForm}
use Rattle.ios_tree.specs.declared.item.IosForm.TheVariants.{MapHeader, Line, Other}
use Rattle.ios_tree.specs.declared.item.IosItem.{IosItem}
use Rattle.ios_tree.specs.declared.item.ItemSort.{ItemSort}
use Rattle.ios_tree.specs.declared.item.ItemSort.TheVariants.{Line as LineSort}
use Rattle.expressible_table.specs.Kinds.{kind_of}
use Rattle.expressible_table.specs.Constructs.{put, map_constructs, RiseFrom}
use Rattle.expressible_table.specs.Noted.{left_in}
use Rattle.expressible_table.specs.declared.construct.Construct.{Construct}
use Rattle.expressible_table.specs.declared.kind.Kind.{Kind}
use Rattle.expressible_table.specs.declared.kind.Kind.TheVariants.{Flow}

module _ (end : ℕ) where
  lower : (q p : ℕ) (cs : List Construct) → q ≤ p → RiseFrom p end cs → RiseFrom q end cs
  lower q p [] le h = omega (arith, le, h)
  lower q p (c ∷ cs) le h = (omega (arith, le, h.0), h.1, h.2)

  -- the span lies from the place on, and what stands behind it rises
  record Comes (p : ℕ) (span : Span) (cs : List Construct) : Type 0 where
    from : p ≤ span.start
    some : span.start < span.end
    rest : RiseFrom span.end end cs

  behind : (p : ℕ) (span : Span) (cs : List Construct) → Comes p span cs → RiseFrom p end cs
  behind p span cs h = lower p span.end cs (omega (arith, h.from, h.some)) h.rest

  put_rises : (p : ℕ) (o : Option Kind) (span : Span) (cs : List Construct) → Comes p span cs → RiseFrom p end (put o span cs)
  put_rises p (Some kind) span cs h = (h.from, h.some, h.rest)
  put_rises p None span cs h = behind p span cs h

  entry_rises : (p : ℕ) (b : Bool) (span : Span) (lines others : List Construct) → Comes p span lines → Comes p span others → RiseFrom p end (elim b [ true ↦ put (Some Flow) span lines | false ↦ others ])
  entry_rises p true span lines others h g = put_rises p (Some Flow) span lines h
  entry_rises p false span lines others h g = behind p span others g

  module _ (all : List IosItem) (name : List ℕ) where
    abbrev Left : ℕ → Bool → List IosItem → Type 0
    Left p inside is = RiseFrom p end (left_in all name inside is)

    sort_rises : (p : ℕ) (sort : ItemSort) (under : Option (List ℕ)) (inside : Bool) (span : Span) (is : List IosItem) → ((b : Bool) → Comes p span (left_in all name b is))
        → Left p inside (record { form = Other (record { sort = sort; name = under }); span = span } ∷ is)
    sort_rises p LineSort under true span is h = behind p span (left_in all name true is) (h true)
    sort_rises p LineSort under false span is h = behind p span (left_in all name false is) (h false)
    sort_rises p _ under true span is h = behind p span (left_in all name false is) (h false)
    sort_rises p _ under false span is h = behind p span (left_in all name false is) (h false)

    form_rises : (p : ℕ) (form : IosForm) (inside : Bool) (span : Span) (is : List IosItem) → ((b : Bool) → Comes p span (left_in all name b is)) → Left p inside (record { form = form; span = span } ∷ is)
    form_rises p (MapHeader m) true span is h = entry_rises p (bytes_eq name m.map) span (left_in all name true is) (left_in all name false is) (h true) (h false)
    form_rises p (MapHeader m) false span is h = entry_rises p (bytes_eq name m.map) span (left_in all name true is) (left_in all name false is) (h true) (h false)
    form_rises p (Line l) true span is h = put_rises p (kind_of all l) span (left_in all name true is) (h true)
    form_rises p (Line l) false span is h = behind p span (left_in all name false is) (h false)
    form_rises p (Other o) inside span is h = sort_rises p o.sort o.name inside span is h
    form_rises p _ true span is h = behind p span (left_in all name false is) (h false)
    form_rises p _ false span is h = behind p span (left_in all name false is) (h false)

    left_rises : (p : ℕ) (inside : Bool) (is : List IosItem) → ItemsRiseFrom p end is → Left p inside is
    left_rises p true [] h = h
    left_rises p false [] h = h
    left_rises p inside (i ∷ is) h =
        form_rises p i.form inside i.span is (λ b. record {
          from = h.0;
          some = h.1;
          rest = left_rises i.span.end b is h.2;
        })

    pub map_rises : SpansRise end all → RiseFrom 0 end (map_constructs name all)
    map_rises h = left_rises 0 false all h
