-- What nodes ask that test the communities of the route as it arrives.
use Rattle.std.proofs.Common.{◌≡◌, refl, sym, ap, ◌∙◌, ℕ, ◌<◌, Bool, true, false, ◌&&◌, ◌||◌, List, [], ◌∷◌, length, arith}
use Rattle.std.specs.Prelude.{not}
use Rattle.std.specs.List.{list_any}
use Rattle.route_types.specs.Community.{RectParts, fits}
use Rattle.route_types.specs.Sets.{fits_some}
use Rattle.route_types.specs.declared.community.Community.{Community}
use Rattle.route_types.specs.declared.community.CommChange.{CommChange}
use Rattle.community_sets.specs.Tests.{all_fitted, list_answers}
use Rattle.community_sets.specs.declared.list.CommList.{CommList}
use Rattle.community_cuts.specs.Earlier.{fitted, behind}
use Rattle.community_cuts.specs.Kept.{some_permits}
use Rattle.community_cuts.proofs.FittedAfter.{any_behind, any_same, any_none}
use Rattle.community_sets.specs.declared.list.CommEntry.{CommEntry}
use Rattle.core_nodes.specs.Atoms.{atom_holds}
use Rattle.core_nodes.specs.declared.atom.Atom.TheVariants.{Community as Communities}
use Rattle.core_nodes.specs.declared.node.NodeKind.{NodeKind}
use Rattle.community_branches.specs.Asked.{all_of, one_each}
use Rattle.community_branches.specs.Branches.{IsBranch, some_fitted}
use Rattle.community_branches.proofs.BranchLaws.{never, same_branch}

or_right : (b : Bool) → (b || false) ≡ b
or_right true = refl
or_right false = refl

entry_by : (b : Bool) → elim b [ true ↦ true | false ↦ false ] ≡ b
entry_by true = refl
entry_by false = refl

-- one list that asks for all rectangles
pub all_asked : (rects : List RectParts) (set : List Community) → some_permits (record { entries = all_of rects ∷ [] } ∷ []) set ≡ all_fitted rects set
unfolding list_answers
all_asked rects set = or_right (elim (all_fitted rects set) [ true ↦ true | false ↦ false ]) ∙ entry_by (all_fitted rects set)

-- one rectangle is all of them
pub one_fitted : (rect : RectParts) (set : List Community) → all_fitted (rect ∷ []) set ≡ fitted rect set
one_fitted rect set = and_right (fitted rect set)
  where
    and_right : (b : Bool) → (b && true) ≡ b
    and_right true = refl
    and_right false = refl

each_by : (a b : Bool) → elim (a && true) [ true ↦ true | false ↦ b ] ≡ (a || b)
each_by true b = refl
each_by false b = refl

-- one list that asks for one of the rectangles
each_asked : (rects : List RectParts) (set : List Community) → list_answers (one_each rects) set ≡ list_any (λ rect. fitted rect set) rects
unfolding list_answers
each_asked [] set = refl
each_asked (r ∷ rs) set = each_by (fitted r set) (list_answers (one_each rs) set) ∙ ap (λ (b : Bool). fitted r set || b) (each_asked rs set)

pub some_asked : (rects : List RectParts) (set : List Community) → some_permits (record { entries = one_each rects } ∷ []) set ≡ list_any (λ rect. fitted rect set) rects
some_asked rects set = or_right (list_answers (one_each rects) set) ∙ each_asked rects set

-- ---- what is left of a rectangle

or_four : (a b c d : Bool) → ((a || b) || (c || d)) ≡ ((a || c) || (b || d))
or_four true b c d = refl
or_four false true true d = refl
or_four false false true d = refl
or_four false true false d = refl
or_four false false false d = refl

any_or : {A : Type 0} (p q : A → Bool) (xs : List A) → list_any (λ x. p x || q x) xs ≡ (list_any p xs || list_any q xs)
any_or p q [] = refl
any_or p q (x ∷ xs) = ap (λ (b : Bool). (p x || q x) || b) (any_or p q xs) ∙ or_four (p x) (q x) (list_any p xs) (list_any q xs)

-- some rectangle is fitted by some community where some community fits some rectangle
pub some_some : (rects : List RectParts) (set : List Community) → list_any (λ rect. fitted rect set) rects ≡ list_any (λ c. fits_some fits rects c) set
some_some [] set = sym (any_none (λ (c : Community). false) set (λ c. refl))
some_some (r ∷ rs) set =
    ap (λ (b : Bool). fitted r set || b) (some_some rs set)
    ∙ sym (any_or (λ (c : Community). fits r c) (λ (c : Community). fits_some fits rs c) set)

and_turned : (a b : Bool) → (a && b) ≡ (b && a)
and_turned true true = refl
and_turned true false = refl
and_turned false true = refl
and_turned false false = refl

-- where no added community fits, what is left of a rectangle is asked
pub left_fitted : (rect : RectParts) (change : CommChange) (left : List RectParts) → fitted rect change.added ≡ false → ((c : Community) → fits_some fits left c ≡ (fits rect c && not (fits_some fits change.removed c)))
    → (set : List Community) → list_any (λ x. fitted x set) left ≡ fitted rect (behind change set)
left_fitted rect change left unadded is set =
    some_some left set
    ∙ any_same (λ c. fits_some fits left c) (λ c. not (fits_some fits change.removed c) && fits rect c) set (λ c. is c ∙ and_turned (fits rect c) (not (fits_some fits change.removed c)))
    ∙ sym (any_behind (λ c. fits rect c) change set ∙ ap (λ (b : Bool). list_any (λ c. not (fits_some fits change.removed c) && fits rect c) set || b) unadded ∙ or_right (list_any (λ c. not (fits_some fits change.removed c) && fits rect c) set))

-- ---- nodes

pub all_branch : (old new : List NodeKind) (rects : List RectParts) (entries : List CommEntry) (lists : List CommList) (met unmet n : ℕ) → entries ≡ all_of rects ∷ [] → lists ≡ record { entries = entries } ∷ []
    → IsBranch old new (λ r. atom_holds (Communities lists) r) met unmet n → IsBranch old new (λ r. all_fitted rects r.communities) met unmet n
all_branch old new rects entries lists met unmet n e f b =
    same_branch old new (λ r. atom_holds (Communities lists) r) (λ r. all_fitted rects r.communities) met unmet n b (λ r range.
    ap (λ (ls : List CommList). some_permits ls r.communities) f
    ∙ ap (λ (es : List CommEntry). some_permits (record { entries = es } ∷ []) r.communities) e
    ∙ all_asked rects r.communities)

pub some_branch : (old new : List NodeKind) (rects : List RectParts) (entries : List CommEntry) (lists : List CommList) (met unmet n : ℕ) → entries ≡ one_each rects → lists ≡ record { entries = entries } ∷ []
    → IsBranch old new (λ r. atom_holds (Communities lists) r) met unmet n → IsBranch old new (some_fitted rects) met unmet n
some_branch old new rects entries lists met unmet n e f b =
    same_branch old new (λ r. atom_holds (Communities lists) r) (some_fitted rects) met unmet n b (λ r range.
    ap (λ (ls : List CommList). some_permits ls r.communities) f
    ∙ ap (λ (es : List CommEntry). some_permits (record { entries = es } ∷ []) r.communities) e
    ∙ some_asked rects r.communities)

-- of no rectangle none is fitted
pub none_branch : (old : List NodeKind) (rects : List RectParts) (met unmet : ℕ) → unmet < length old → length rects ≡ 0 → IsBranch old old (some_fitted rects) met unmet unmet
none_branch old [] met unmet below e = never old (some_fitted []) met unmet below (λ r range. refl)
none_branch old (x ∷ xs) met unmet below e = absurd (omega (arith, e))
