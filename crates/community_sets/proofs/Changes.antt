-- Two changes one after the other.
use Rattle.std.proofs.Common.{◌≡◌, ◌∙◌, ap, List, ◌++◌}
use Rattle.std.specs.Prelude.{not, filter}
use Rattle.route_types.specs.Sets.{fits_some}
use Rattle.route_types.specs.Community.{RectParts, fits, number, set_after}
use Rattle.route_types.specs.declared.community.Community.{Community}
use Rattle.route_types.proofs.Sets.{same_community, changes_joined}

-- what the second removes goes from what the first adds too
pub acts : (rs qs removed : List RectParts) (added more both : List Community) → removed ≡ rs ++ qs → both ≡ filter (λ c. not (fits_some fits qs c)) added ++ more
    → (set : List Community) → set_after removed both set ≡ set_after qs more (set_after rs added set)
acts rs qs removed added more both r a set =
    ap (λ (x : List RectParts). set_after x both set) r ∙ ap (λ (x : List Community). set_after (rs ++ qs) x set) a ∙ changes_joined number same_community fits rs qs added more set
