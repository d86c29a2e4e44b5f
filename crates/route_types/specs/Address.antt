-- Addresses and prefixes (RFC 4632, section 3.1), over the width of the family.
use Rattle.std.specs.Prelude.{◌≡◌, ℕ, ◌-◌, ◌*◌, ◌/◌, ◌%◌, ◌^◌, ◌<◌, ◌≤◌, Bool, true, false, ◌&&◌, nat_le, ◌==◌}
use Rattle.route_types.specs.declared.address.Family.{Family}
use Rattle.route_types.specs.declared.address.Family.TheVariants.{V4, V6}
use Rattle.route_types.specs.declared.address.Address.{Address}

-- the bits of an address of the family
abbrev pub width : Family → ℕ
width V4 = 32
width V6 = 128

-- a prefix as clauses see it
pub record PrefixParts : Type 0 where
  pub address : Address
  pub length : ℕ

-- the address fits its family, the length lies within the family, and the bits behind the length are 0
pub record IsMasked (address : Address) (length : ℕ) : Type 0 where
  pub fits : address.bits < 2 ^ width address.family
  pub within : length ≤ width address.family
  pub masked : address.bits % 2 ^ (width address.family - length) ≡ 0

-- the address with all bits behind the length set to 0
abbrev pub masked_address : Address → ℕ → Address
masked_address a n = let block = 2 ^ (width a.family - n) in record { family = a.family; bits = a.bits / block * block }

-- the prefix of an address and a length
abbrev pub prefix_of : Address → ℕ → PrefixParts
prefix_of a n = record { address = masked_address a n; length = n }

-- an address taken as a prefix of full length
abbrev pub full_prefix : Address → PrefixParts
full_prefix a = record { address = a; length = width a.family }

-- the two families are one
abbrev pub same_family : Family → Family → Bool
same_family V4 V4 = true
same_family V6 V6 = true
same_family V4 V6 = false
same_family V6 V4 = false

-- q is p or lies within it: of its family, no shorter, and the first bits agree
abbrev pub contains : PrefixParts → PrefixParts → Bool
contains p q = let block = 2 ^ (width p.address.family - p.length) in
    same_family p.address.family q.address.family && nat_le p.length q.length && (p.address.bits / block == q.address.bits / block)
