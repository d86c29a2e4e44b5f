-- What a test behind the change comes to, as a branch.
use Rattle.std.proofs.Common.{◌≡◌, refl, sym, ap, subst, ◌∙◌, ℕ, ◌<◌, Bool, true, false, ◌&&◌, ◌||◌, List, [], ◌∷◌, ◌++◌, length, map}
use Rattle.std.specs.Prelude.{not}
use Rattle.std.specs.List.{list_all}
use Rattle.route_types.specs.Community.{RectParts, fits}
use Rattle.route_types.specs.Sets.{fits_some}
use Rattle.route_types.specs.declared.community.Community.{Community}
use Rattle.route_types.specs.declared.community.CommChange.{CommChange}
use Rattle.community_sets.specs.Tests.{all_fitted, is_member, test_holds, list_answers}
use Rattle.community_sets.specs.declared.list.CommTest.{CommTest}
use Rattle.community_sets.specs.declared.list.CommEntry.{CommEntry}
use Rattle.community_sets.specs.declared.list.CommList.{CommList}
use Rattle.community_cuts.specs.Earlier.{fitted, behind, ComesTo}
use Rattle.community_cuts.specs.Kept.{TestComesTo, EntriesBefore}
use Rattle.community_cuts.specs.declared.member.Member.{Member}
use Rattle.community_cuts.specs.declared.member.Member.TheVariants.{Held, Kept, Gone, Parted}
use Rattle.community_cuts.specs.declared.kept.TestBefore.{TestBefore}
use Rattle.community_cuts.specs.declared.kept.TestBefore.TheVariants.{Never, Asked}
use Rattle.core_nodes.specs.Atoms.{atom_holds}
use Rattle.core_nodes.specs.declared.atom.Atom.TheVariants.{Community as Communities}
use Rattle.core_nodes.specs.declared.node.NodeKind.{NodeKind}
use Rattle.community_branches.specs.Asked.{point, every}
use Rattle.community_branches.specs.Branches.{IsBranch, fitted_behind, all_fitted_behind, test_behind, entries_behind, some_fitted}
use Rattle.community_branches.specs.Tests.{exactly_behind, others_behind}
use Rattle.community_branches.proofs.BranchLaws.{always, never, same_branch, turned, both_hold}
use Rattle.community_branches.proofs.AskedLaws.{one_fitted, left_fitted}
use Rattle.community_branches.proofs.SetLaws.{stranger_added, exactly_law, others_left}

or_right : (b : Bool) → (b || false) ≡ b
or_right true = refl
or_right false = refl

-- ---- tests of entries

abbrev test_behind_set : CommChange → CommTest → List Community → Bool
test_behind_set change test set = test_holds test (behind change set)

pub test_never : (old : List NodeKind) (test : CommTest) (change : CommChange) (b : TestBefore) (met unmet : ℕ) → unmet < length old → b ≡ Never → TestComesTo b test change → IsBranch old old (test_behind change test) met unmet unmet
test_never old test change b met unmet below e h =
    let fails : (set : List Community) → test_behind_set change test set ≡ false = subst (λ (x : TestBefore). TestComesTo x test change) e h in
    never old (test_behind change test) met unmet below (λ r range. fails r.communities)

pub test_asked : (old new : List NodeKind) (test : CommTest) (change : CommChange) (b : TestBefore) (rects : List RectParts) (met unmet n : ℕ) → b ≡ Asked rects → TestComesTo b test change
    → IsBranch old new (λ r. all_fitted rects r.communities) met unmet n → IsBranch old new (test_behind change test) met unmet n
test_asked old new test change b rects met unmet n e h branch =
    let holds : (set : List Community) → test_behind_set change test set ≡ all_fitted rects set = subst (λ (x : TestBefore). TestComesTo x test change) e h in
    same_branch old new (λ r. all_fitted rects r.communities) (test_behind change test) met unmet n branch (λ r range. sym (holds r.communities))

-- ---- rectangles

pub member_held : (old : List NodeKind) (rect : RectParts) (change : CommChange) (m : Member) (met unmet : ℕ) → met < length old → m ≡ Held → ComesTo m rect change → IsBranch old old (fitted_behind change rect) met unmet met
member_held old rect change m met unmet below e h =
    let holds : (set : List Community) → fitted rect (behind change set) ≡ true = subst (λ (x : Member). ComesTo x rect change) e h in
    always old (fitted_behind change rect) met unmet below (λ r range. holds r.communities)

pub member_gone : (old : List NodeKind) (rect : RectParts) (change : CommChange) (m : Member) (met unmet : ℕ) → unmet < length old → m ≡ Gone → ComesTo m rect change → IsBranch old old (fitted_behind change rect) met unmet unmet
member_gone old rect change m met unmet below e h =
    let fails : (set : List Community) → fitted rect (behind change set) ≡ false = subst (λ (x : Member). ComesTo x rect change) e h in
    never old (fitted_behind change rect) met unmet below (λ r range. fails r.communities)

pub member_kept : (old new : List NodeKind) (rect : RectParts) (rects : List RectParts) (change : CommChange) (m : Member) (met unmet n : ℕ) → m ≡ Kept → ComesTo m rect change → rects ≡ rect ∷ []
    → IsBranch old new (λ r. all_fitted rects r.communities) met unmet n → IsBranch old new (fitted_behind change rect) met unmet n
member_kept old new rect rects change m met unmet n e h is branch =
    let same : (set : List Community) → fitted rect (behind change set) ≡ fitted rect set = subst (λ (x : Member). ComesTo x rect change) e h in
    same_branch old new (λ r. all_fitted rects r.communities) (fitted_behind change rect) met unmet n branch (λ r range.
    ap (λ (rs : List RectParts). all_fitted rs r.communities) is ∙ one_fitted rect r.communities ∙ sym (same r.communities))

pub member_parted : (old new : List NodeKind) (rect : RectParts) (left : List RectParts) (change : CommChange) (m : Member) (met unmet n : ℕ) → m ≡ Parted → ComesTo m rect change
    → ((c : Community) → fits_some fits left c ≡ (fits rect c && not (fits_some fits change.removed c)))
    → IsBranch old new (some_fitted left) met unmet n → IsBranch old new (fitted_behind change rect) met unmet n
member_parted old new rect left change m met unmet n e h is branch =
    let parted : ComesTo Parted rect change = subst (λ (x : Member). ComesTo x rect change) e h in
    same_branch old new (some_fitted left) (fitted_behind change rect) met unmet n branch (λ r range. left_fitted rect change left parted.unadded is r.communities)

-- ---- lists

pub list_asked : (old new : List NodeKind) (entries : List CommEntry) (found : CommList) (lists : List CommList) (change : CommChange) (met unmet n : ℕ) → EntriesBefore found.entries entries change → lists ≡ found ∷ []
    → IsBranch old new (λ r. atom_holds (Communities lists) r) met unmet n → IsBranch old new (entries_behind change entries) met unmet n
list_asked old new entries found lists change met unmet n before is branch =
    same_branch old new (λ r. atom_holds (Communities lists) r) (entries_behind change entries) met unmet n branch (λ r range.
    ap (λ (ls : List CommList). atom_holds (Communities ls) r) is ∙ or_right (list_answers found.entries r.communities) ∙ before.answers r.communities)

-- ---- whole sets

pub set_other : (old : List NodeKind) (members : List Community) (change : CommChange) (met unmet : ℕ) → unmet < length old → list_all (λ c. is_member c members) change.added ≡ false → IsBranch old old (exactly_behind change members) met unmet unmet
set_other old members change met unmet below h = never old (exactly_behind change members) met unmet below (λ r range. stranger_added members change h r)

pub set_same : (old mid new : List NodeKind) (members : List Community) (change : CommChange) (points : List RectParts) (met unmet m n : ℕ) → unmet < length old → points ≡ map point members → list_all (λ c. is_member c members) change.added ≡ true
    → IsBranch old mid (others_behind change points) met unmet m → IsBranch mid new (all_fitted_behind change points) m unmet n → IsBranch old new (exactly_behind change members) met unmet n
set_same old mid new members change points met unmet m n below is h first second =
    same_branch old new (λ r. all_fitted_behind change points r && others_behind change points r) (exactly_behind change members) met unmet n
    (both_hold old mid new (others_behind change points) (all_fitted_behind change points) met unmet m n below first second) (λ r range. exactly_law members change points is h r)

pub others_branch : (old new : List NodeKind) (rects away left : List RectParts) (change : CommChange) (met unmet n : ℕ) → away ≡ rects ++ change.removed → ((c : Community) → fits_some fits left c ≡ (fits every c && not (fits_some fits away c)))
    → IsBranch old new (some_fitted left) unmet met n → IsBranch old new (others_behind change rects) met unmet n
others_branch old new rects away left change met unmet n e is branch =
    same_branch old new (λ r. not (some_fitted left r)) (others_behind change rects) met unmet n (turned old new (some_fitted left) met unmet n branch) (λ r range. others_left rects away left change e is r range)
