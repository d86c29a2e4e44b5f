-- Community lists (Cisco IOS command reference, 'ip community-list'): the first entry that holds decides.
use Rattle.std.specs.Prelude.{Bool, true, false, ◌&&◌, ◌==◌, List, [], ◌∷◌}
use Rattle.std.specs.List.{list_any, list_all}
use Rattle.route_types.specs.Community.{RectParts, fits}
use Rattle.route_types.specs.declared.community.Community.{Community}
use Rattle.community_sets.specs.declared.list.CommTest.{CommTest}
use Rattle.community_sets.specs.declared.list.CommTest.TheVariants.{AllOf, Exactly}
use Rattle.community_sets.specs.declared.list.CommEntry.{CommEntry}

-- each rectangle is fitted by some community of the set
abbrev pub all_fitted : List RectParts → List Community → Bool
all_fitted rects set = list_all (λ r. list_any (λ c. fits r c) set) rects

-- the community is in the set
abbrev pub is_member : Community → List Community → Bool
is_member c set = list_any (λ d. c.0 == d.0) set

-- each member of the one is in the other, both ways
abbrev pub same_set : List Community → List Community → Bool
same_set one other = list_all (λ c. is_member c other) one && list_all (λ c. is_member c one) other

-- the communities pass the test of an entry
abbrev pub test_holds : CommTest → List Community → Bool
test_holds (AllOf rects) set = all_fitted rects set
test_holds (Exactly members) set = same_set members set

-- the first entry whose test holds permits or denies the set; where none holds, it is denied
unfoldable pub list_answers : List CommEntry → List Community → Bool
list_answers [] set = false
list_answers (e ∷ es) set = elim (test_holds e.test set) [ true ↦ e.permit | false ↦ list_answers es set ]
