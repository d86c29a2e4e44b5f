-- The entries of lists that ask for rectangles of communities.
use Rattle.std.specs.Prelude.{◌/◌, ◌%◌, ◌^◌, true, List, [], ◌∷◌, map}
use Rattle.route_types.specs.Community.{RectParts}
use Rattle.route_types.specs.declared.community.Community.{Community}
use Rattle.community_sets.specs.declared.list.CommTest.TheVariants.{AllOf}
use Rattle.community_sets.specs.declared.list.CommEntry.{CommEntry}

-- the entry that permits where each rectangle is fitted
abbrev pub all_of : List RectParts → CommEntry
all_of rects = record { permit = true; test = AllOf rects }

-- an entry for each rectangle
abbrev pub one_each : List RectParts → List CommEntry
one_each rects = map (λ rect. all_of (rect ∷ [])) rects

-- the rectangle of one community
abbrev pub point : Community → RectParts
point c = record { high_least = c.0 / 2 ^ 16; high_most = c.0 / 2 ^ 16; low_least = c.0 % 2 ^ 16; low_most = c.0 % 2 ^ 16 }

-- all communities
abbrev pub every : RectParts
every = record { high_least = 0; high_most = 65535; low_least = 0; low_most = 65535 }
