-- Words that the languages share: the communities that have a word of their own.
use Rattle.std.specs.Prelude.{ℕ, List, [], ◌∷◌, codes}
use Rattle.route_types.specs.declared.community.Community.{Community}

-- the community of 32 bits
abbrev pub community_of_bits : ℕ → Community
community_of_bits bits = record { 0 = bits }

-- the communities that have a word of their own (RFC 1997); the one of NO_EXPORT_SUBCONFED is another in each language
abbrev pub known_communities : List ℕ → List (List ℕ × Community)
known_communities within_confederation = (codes "no-export", community_of_bits 4294967041) ∷ (codes "no-advertise", community_of_bits 4294967042) ∷ (within_confederation, community_of_bits 4294967043) ∷ []
