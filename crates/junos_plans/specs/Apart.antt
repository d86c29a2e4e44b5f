-- Prefixes of which none contains another: of route-filters with such prefixes the longest match is the only one.
use Rattle.std.specs.Prelude.{◌≡◌, ℕ, ◌+◌, ◌-◌, ◌^◌, Bool, true, false, ◌||◌, nat_lt, List, [], ◌∷◌}
use Rattle.std.specs.List.{IsDistinct}
use Rattle.route_types.specs.Address.{IsMasked, contains}
use Rattle.route_types.specs.declared.address.Family.TheVariants.{V4}
use Rattle.prefix_sets.specs.Range.{RangeParts}
use Rattle.junos_plans.specs.declared.apart.Block.{Block}

-- one of the two prefixes contains the other
abbrev pub meets : RangeParts → RangeParts → Bool
meets x y = contains x.prefix y.prefix || contains y.prefix x.prefix

-- no prefix contains another
abbrev pub AreApart : List RangeParts → Type 0
AreApart ranges = IsDistinct meets ranges

-- ---- how it is found

-- the addresses of a prefix: its own one, and the one past the last
pub record IsBlock (b : Block) : Type 0 where
  pub family : b.range.prefix.address.family ≡ V4
  pub masked : IsMasked b.range.prefix.address b.range.prefix.length
  pub first : b.first ≡ b.range.prefix.address.bits
  pub past : b.past ≡ b.first + 2 ^ (32 - b.range.prefix.length)

-- each block starts where the one before it has ended
unfoldable pub rise_from : ℕ → List Block → Bool
rise_from past [] = true
rise_from past (b ∷ bs) = elim (nat_lt b.first past) [ true ↦ false | false ↦ rise_from b.past bs ]
