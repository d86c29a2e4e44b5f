-- Longest match (Junos OS routing policies, 'route-filter' match conditions): the longest filter that contains a prefix decides alone.
use Rattle.std.specs.Prelude.{Bool, ◌&&◌, not, ◌==◌, nat_le, nat_lt, List}
use Rattle.std.specs.List.{IsDistinct, list_all, list_any}
use Rattle.route_types.specs.Address.{PrefixParts, contains, same_family}
use Rattle.route_types.specs.declared.address.Family.{Family}
use Rattle.prefix_sets.specs.Range.{RangeParts}

-- the filter's prefix contains q, and no filter whose prefix contains q has a longer prefix
abbrev pub is_longest : List RangeParts → PrefixParts → RangeParts → Bool
is_longest filters q f = contains f.prefix q && not (list_any (λ g. contains g.prefix q && nat_lt f.prefix.length g.prefix.length) filters)

-- the length of q is one of the filter's lengths
abbrev pub has_length : RangeParts → PrefixParts → Bool
has_length f q = nat_le f.least q.length && nat_le q.length f.most

-- of the filters whose prefix contains q the longest is chosen, and its lengths alone decide; where none contains q the answer is no
abbrev pub longest_match : List RangeParts → PrefixParts → Bool
longest_match filters q = list_any (λ f. is_longest filters q f && has_length f q) filters

-- the two are one prefix
abbrev pub same_prefix : PrefixParts → PrefixParts → Bool
same_prefix p q = same_family p.address.family q.address.family && (p.address.bits == q.address.bits) && (p.length == q.length)

-- no prefix stands twice
abbrev pub AreDistinct : List RangeParts → Type 0
AreDistinct filters = IsDistinct (λ f g. same_prefix f.prefix g.prefix) filters

-- all prefixes are of the family
abbrev pub are_of : Family → List RangeParts → Bool
are_of family filters = list_all (λ f. same_family f.prefix.address.family family) filters
