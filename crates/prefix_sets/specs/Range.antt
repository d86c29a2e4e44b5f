-- Prefix ranges (Cisco IOS command reference, 'ip prefix-list'), over the width of the family.
use Rattle.std.specs.Prelude.{ℕ, Bool, ◌&&◌, nat_le}
use Rattle.route_types.specs.Address.{PrefixParts, contains}

-- a prefix range as clauses see it
pub record RangeParts : Type 0 where
  pub prefix : PrefixParts
  pub least : ℕ
  pub most : ℕ

-- q lies within the range's prefix, and its length within the range's lengths
abbrev pub in_range : RangeParts → PrefixParts → Bool
in_range r q = contains r.prefix q && nat_le r.least q.length && nat_le q.length r.most
