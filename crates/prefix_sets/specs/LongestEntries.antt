-- The entries of a list that answers by longest match: of each filter, the longest first, its range, and behind it all else of its prefix.
use Rattle.std.specs.Prelude.{◌≡◌, ℕ, ◌-◌, ◌≤◌, true, false, nat_le, List, [], ◌∷◌, ◌++◌}
use Rattle.std.specs.List.{AllByRecursion}
use Rattle.route_types.specs.Address.{width, IsMasked}
use Rattle.prefix_sets.specs.Range.{RangeParts}
use Rattle.prefix_sets.specs.declared.list.PrefixEntry.{PrefixEntry}
use Rattle.prefix_sets.specs.declared.longest.Keyed.{Keyed}

-- the permit entry of a filter, where its range isn't empty
abbrev pub permit_entries : RangeParts → List PrefixEntry
permit_entries f = elim (nat_le f.least f.most) [ true ↦ record { permit = true; range = f } ∷ [] | false ↦ [] ]

-- the entry that denies what is left of a filter's prefix, with all lengths from its own to the greatest
abbrev pub deny_entry : ℕ → RangeParts → PrefixEntry
deny_entry most f = record { permit = false; range = record { prefix = f.prefix; least = f.prefix.length; most = most } }

-- the entries of filters in this order
unfoldable pub entries_of : ℕ → List RangeParts → List PrefixEntry
entries_of most [] = []
entries_of most (f ∷ fs) = permit_entries f ++ (deny_entry most f ∷ entries_of most fs)

-- what a filter is sorted by: the bits behind its length, then its address
pub record IsKeyed (k : Keyed) : Type 0 where
  pub host_bits : k.host_bits ≡ width k.range.prefix.address.family - k.range.prefix.length
  pub masked : IsMasked k.range.prefix.address k.range.prefix.length

-- the filters rise by what they are sorted by
abbrev pub IsRising : List Keyed → Type 0
IsRising [] = Unit {0}
IsRising (k ∷ ks) = AllByRecursion (λ l. k.host_bits ≤ l.host_bits) ks × IsRising ks
