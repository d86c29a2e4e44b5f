-- Prefix lists (Cisco IOS command reference, 'ip prefix-list'): the first entry that holds decides.
use Rattle.std.specs.Prelude.{Bool, true, false, List, [], ◌∷◌}
use Rattle.route_types.specs.Address.{PrefixParts, full_prefix}
use Rattle.route_types.specs.declared.route.NextHop.{NextHop}
use Rattle.route_types.specs.declared.route.NextHop.TheVariants.{At, Own}
use Rattle.prefix_sets.specs.Range.{in_range}
use Rattle.prefix_sets.specs.declared.list.PrefixEntry.{PrefixEntry}

-- the first entry whose range holds the prefix permits or denies it; where none holds it, it is denied
unfoldable pub first_match : List PrefixEntry → PrefixParts → Bool
first_match [] p = false
first_match (e ∷ es) p = elim (in_range e.range p) [ true ↦ e.permit | false ↦ first_match es p ]

-- on a next hop: its address is taken as a prefix of full length; the router's own one is in no range
abbrev pub hop_match : List PrefixEntry → NextHop → Bool
hop_match es (At a) = first_match es (full_prefix a)
hop_match es Own = false
