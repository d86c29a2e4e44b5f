-- How the longest match is found: the greatest length of the filters that contain a prefix, and then those of that length.
use Rattle.std.specs.Prelude.{ℕ, Bool, true, false, ◌&&◌, not, nat_lt, List, [], ◌∷◌}
use Rattle.route_types.specs.Address.{PrefixParts, contains}
use Rattle.prefix_sets.specs.Range.{RangeParts}
use Rattle.prefix_sets.specs.LongestMatch.{has_length}

-- the greatest length so far behind one more filter
abbrev pub longer_of : PrefixParts → RangeParts → ℕ → ℕ
longer_of p f longest = elim (contains f.prefix p && nat_lt longest f.prefix.length) [ true ↦ f.prefix.length | false ↦ longest ]

-- the greatest length of the filters that contain the prefix, or one that was found before them
unfoldable pub longest_from : PrefixParts → ℕ → List RangeParts → ℕ
longest_from p longest [] = longest
longest_from p longest (f ∷ fs) = longest_from p (longer_of p f longest) fs

-- the filter contains the prefix, is no shorter than the longest one, and has the prefix's length
abbrev pub decides_at : PrefixParts → ℕ → RangeParts → Bool
decides_at p longest f = (contains f.prefix p && not (nat_lt f.prefix.length longest)) && has_length f p
