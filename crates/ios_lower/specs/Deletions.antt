-- The communities that a list takes away, as rectangles (Cisco IOS IP Routing: BGP command reference, 'set comm-list
-- delete'): those on each of which, taken alone, the list answers yes.
use Rattle.std.specs.Prelude.{◌≡◌, ◌<◌, ◌^◌, ◌==◌, true, false, List, [], ◌∷◌, ◌++◌}
use Rattle.std.specs.List.{list_all}
use Rattle.route_types.specs.Sets.{fits_some}
use Rattle.route_types.specs.Community.{RectParts, fits}
use Rattle.route_types.specs.declared.community.Community.{Community}
use Rattle.ios_tree.specs.declared.item.CommunityListEntry.{CommunityListEntry}
use Rattle.ios_tree.specs.declared.item.CommunityShape.{CommunityShape}
use Rattle.ios_tree.specs.declared.item.CommunityShape.TheVariants.{Standard, Expanded}
use Rattle.ios_meaning.specs.Lists.{single}
use Rattle.ios_meaning.specs.Drafts.{answers_alone}

-- all communities
abbrev pub every : RectParts
every = record { high_least = 0; high_most = 65535; low_least = 0; low_most = 65535 }

-- the communities that alone are all of these members: one where the members are one, none where they are several
abbrev pub alone_in : List Community → List RectParts
alone_in [] = every ∷ []
alone_in (c ∷ cs) = elim (list_all (λ d. d.0 == c.0) cs) [ true ↦ single c ∷ [] | false ↦ [] ]

-- the communities for which alone an entry of this shape holds
abbrev pub alone : CommunityShape → List RectParts
alone (Standard cs) = alone_in cs
alone (Expanded r) = r ∷ []

-- those of all entries, one behind the other
abbrev pub all_alone : List CommunityListEntry → List RectParts
all_alone [] = []
all_alone (e ∷ es) = alone e.shape ++ all_alone es

-- rectangles are what entries take away: a community alone that the entries answer yes on fits one of them, and where
-- no entry denies they are those of the entries
pub record AreTaken (es : List CommunityListEntry) (rects : List RectParts) : Type 0 where
  pub fitted : (c : Community) → c.0 < 2 ^ 32 → fits_some fits rects c ≡ answers_alone es c
  pub plain : list_all (λ e. e.permit) es ≡ true → rects ≡ all_alone es
