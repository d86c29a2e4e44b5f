-- The addresses and prefixes that texts can say: those of IPv4 (RFC 791).
use Rattle.std.specs.Prelude.{Bool, true, false, ◌&&◌, ◌^◌, nat_lt}
use Rattle.std.specs.List.{list_all}
use Rattle.route_types.specs.Address.{PrefixParts, same_family}
use Rattle.route_types.specs.declared.address.Address.{Address}
use Rattle.route_types.specs.declared.address.Family.TheVariants.{V4}
use Rattle.prefix_sets.specs.declared.list.PrefixList.{PrefixList}

-- an address of 32 bits
abbrev pub address_in_range : Address → Bool
address_in_range a = same_family V4 a.family && nat_lt a.bits (2 ^ 32)

-- a prefix of such an address
abbrev pub prefix_in_range : PrefixParts → Bool
prefix_in_range p = address_in_range p.address

-- the prefix of each entry is in range
abbrev pub list_in_range : PrefixList → Bool
list_in_range list = list_all (λ e. prefix_in_range e.range.prefix) list.entries
