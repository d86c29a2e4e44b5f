-- The text of an address and of a prefix: its address as four numbers joined by dots, a slash, and its length.
use Rattle.std.specs.Prelude.{ℕ, ◌/◌, ◌%◌, List, ◌∷◌, ◌++◌, decimal}
use Rattle.route_types.specs.Address.{PrefixParts}
use Rattle.route_types.specs.Words.{Octets, dotted}
use Rattle.route_types.specs.declared.address.Address.{Address}

-- the four numbers that the last 32 bits of an address make; an IPv4 address has no others
abbrev pub octets_of : Address → Octets
octets_of a = record { first = a.bits / 256 / 256 / 256 % 256; second = a.bits / 256 / 256 % 256; third = a.bits / 256 % 256; fourth = a.bits % 256 }

-- the text of an IPv4 address
abbrev pub address_text : Address → List ℕ
address_text a = dotted (octets_of a)

-- the text of an IPv4 prefix
unfoldable pub prefix_text : PrefixParts → List ℕ
prefix_text p = address_text p.address ++ (47 ∷ decimal p.length)
