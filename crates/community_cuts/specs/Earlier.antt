-- What a rectangle asks of the communities before a change of them: behind the change it is fitted by what was added and
-- fits it, and by what was there, fits it and wasn't removed.
use Rattle.std.specs.Prelude.{◌≡◌, Bool, true, false, List}
use Rattle.std.specs.List.{Any, list_any}
use Rattle.route_types.specs.Community.{RectParts, fits, set_after}
use Rattle.route_types.specs.declared.community.Community.{Community}
use Rattle.route_types.specs.declared.community.CommChange.{CommChange}
use Rattle.community_sets.specs.Cuts.{Share, Covered}
use Rattle.community_sets.specs.declared.change.Cut.{Cut}
use Rattle.community_sets.specs.declared.change.Cut.TheVariants.{Never, Whole, Part}
use Rattle.community_cuts.specs.declared.member.Member.{Member}
use Rattle.community_cuts.specs.declared.member.Member.TheVariants.{Held, Kept, Gone, Parted}

-- some community of the set fits the rectangle
abbrev pub fitted : RectParts → List Community → Bool
fitted r set = list_any (λ c. fits r c) set

-- the set behind the change
abbrev pub behind : CommChange → List Community → List Community
behind change set = set_after change.removed change.added set

-- some removed rectangle shares a community with the rectangle, and none has all of them
pub record IsCutInPart (r : RectParts) (change : CommChange) : Type 0 where
  pub met : (Any (Share r) change.removed → ⊥) → ⊥
  pub left : Any (Covered r) change.removed → ⊥

-- no added community fits the rectangle, and the removals take a part of it
pub record IsParted (r : RectParts) (change : CommChange) : Type 0 where
  pub unadded : fitted r change.added ≡ false
  pub cut : IsCutInPart r change

-- what a rectangle comes to, by whether an added community fits it, and by how the removals cut it
abbrev pub member_by : Bool → Cut → Member
member_by true cut = Held
member_by false Never = Kept
member_by false Whole = Gone
member_by false Part = Parted

-- what is known of a rectangle, by what it comes to
abbrev pub ComesTo : Member → RectParts → CommChange → Type 0
ComesTo Held r change = (set : List Community) → fitted r (behind change set) ≡ true
ComesTo Kept r change = (set : List Community) → fitted r (behind change set) ≡ fitted r set
ComesTo Gone r change = (set : List Community) → fitted r (behind change set) ≡ false
ComesTo Parted r change = IsParted r change
