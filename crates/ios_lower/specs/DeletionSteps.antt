-- One more entry of a list among those whose communities are taken away or kept.
use Rattle.std.specs.Prelude.{◌≡◌, Bool, true, false, ◌&&◌, ◌||◌, not, List, [], ◌++◌}
use Rattle.route_types.specs.Sets.{fits_some}
use Rattle.route_types.specs.Community.{RectParts, fits}
use Rattle.route_types.specs.declared.community.Community.{Community}
use Rattle.ios_tree.specs.declared.item.CommunityListEntry.{CommunityListEntry}
use Rattle.ios_lower.specs.Deletions.{alone}

-- whether a community is taken away: by what has been found, or else by what entries behind answer, where no entry
-- that denies held for it
abbrev pub is_taken : List RectParts → List RectParts → Community → Bool → Bool
is_taken removed kept c behind = fits_some fits removed c || (not (fits_some fits kept c) && behind)

-- what has been found with one more entry, before and after
pub record TakesOne (e : CommunityListEntry) (removed kept removed_after kept_after : List RectParts) : Type 0 where
  pub answers : (c : Community) (behind : Bool) → is_taken removed_after kept_after c behind ≡ is_taken removed kept c (elim (fits_some fits (alone e.shape) c) [ true ↦ e.permit | false ↦ behind ])
  pub plain : kept ≡ [] → e.permit ≡ true → (removed_after ≡ removed ++ alone e.shape) × (kept_after ≡ [])
