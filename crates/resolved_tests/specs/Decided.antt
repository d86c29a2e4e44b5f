-- Community lists that answer alike on every set: their first entries ask for nothing.
use Rattle.std.specs.Prelude.{◌≡◌, Bool, true, false, ◌&&◌, not, List, [], ◌∷◌, Option, Some, None}
use Rattle.route_types.specs.declared.community.Community.{Community}
use Rattle.community_sets.specs.declared.list.CommTest.{CommTest}
use Rattle.community_sets.specs.declared.list.CommTest.TheVariants.{AllOf, Exactly}
use Rattle.community_sets.specs.declared.list.CommEntry.{CommEntry}
use Rattle.community_sets.specs.declared.list.CommList.{CommList}
use Rattle.community_cuts.specs.Kept.{some_permits}

abbrev pub has_none : {A : Type 0} → List A → Bool
has_none [] = true
has_none (x ∷ xs) = false

-- the test asks for no rectangle
abbrev pub asks_nothing : CommTest → Bool
asks_nothing (AllOf rects) = has_none rects
asks_nothing (Exactly set) = false

-- the first entry asks for nothing and permits
abbrev pub permits_each : List CommEntry → Bool
permits_each [] = false
permits_each (e ∷ es) = asks_nothing e.test && e.permit

-- there is no entry, or the first one asks for nothing and denies
abbrev pub denies_each : List CommEntry → Bool
denies_each [] = true
denies_each (e ∷ es) = asks_nothing e.test && not e.permit

-- an answer, if there is one, is that of the lists on every set
abbrev pub DecidesLists : Option Bool → List CommList → Type 0
DecidesLists None lists = Unit {0}
DecidesLists (Some b) lists = (set : List Community) → some_permits lists set ≡ b
