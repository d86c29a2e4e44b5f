-- Loops from the end of a list: what is behind is done.
use Rattle.std.proofs.Common.{◌≡◌, refl, sym, ap, subst, ◌∙◌, ℕ, zero, suc, ◌+◌, ◌-◌, ◌≤◌, ◌<◌, Bool, true, false, ◌||◌, List, [], ◌∷◌, ◌++◌, append_assoc, length, get_or, take, arith, if◌then◌else◌}
use Rattle.std.proofs.lemmas.List.{append-nil}
use Rattle.route_types.specs.Route.{RouteParts}
use Rattle.route_types.specs.Community.{RectParts}
use Rattle.route_types.specs.declared.community.CommChange.{CommChange}
use Rattle.community_sets.specs.Tests.{list_answers}
use Rattle.community_sets.specs.declared.list.CommEntry.{CommEntry}
use Rattle.community_sets.specs.declared.list.CommList.{CommList}
use Rattle.core_nodes.specs.declared.node.NodeKind.{NodeKind}
use Rattle.community_branches.specs.Branches.{IsBranch, fitted_behind, all_fitted_behind, test_behind, entries_behind, lists_behind}
use Rattle.community_branches.specs.Done.{Done}
use Rattle.community_branches.proofs.BranchLaws.{always, never, same_branch, first_decides, both_hold}

pub none_done : {A : Type 0} (P : List A → Type 0) (all : List A) → P [] → Done P all all
none_done {A} P all h = record { behind = []; split = sym (append-nil all); holds = h }

-- the last one is done
pub one_done : {A : Type 0} (P Q : List A → Type 0) (all front : List A) (last : A) → Done P all (front ++ last ∷ []) → ((behind : List A) → P behind → Q (last ∷ behind)) → Done Q all front
one_done {A} P Q all front last d step = record {
  behind = last ∷ d.behind;
  split = d.split ∙ append_assoc front (last ∷ []) d.behind;
  holds = step d.behind d.holds;
}

pub all_done : {A : Type 0} (P : List A → Type 0) (all rest : List A) → rest ≡ [] → Done P all rest → P all
all_done {A} P all rest e d = subst P (sym (d.split ∙ ap (λ (xs : List A). xs ++ d.behind) e)) d.holds

last_at : {A : Type 0} (n : ℕ) (rest : List A) (x : A) → length rest ≡ n + 1 → x ≡ get_or rest n x → rest ≡ take n rest ++ x ∷ []
last_at {A} zero [] x h e = absurd (omega (arith, h))
last_at {A} zero (y ∷ []) x h e = ap (λ (z : A). z ∷ []) (sym e)
last_at {A} zero (y ∷ z ∷ zs) x h e = absurd (omega (arith, h))
last_at {A} (suc n) [] x h e = absurd (omega (arith, h))
last_at {A} (suc n) (y ∷ ys) x h e = ap (λ (xs : List A). y ∷ xs) (last_at n ys x (omega (arith, h)) e)

-- a list that is no shorter than one, by its last element and those in front
last_is : {A : Type 0} (rest : List A) (x : A) → 1 ≤ length rest → x ≡ get_or rest (length rest - 1) x → rest ≡ take (length rest - 1) rest ++ x ∷ []
last_is {A} rest x h e = last_at (length rest - 1) rest x (omega (arith, h)) e

-- ---- one more rectangle, entry or list before what is done

all_step : (old mid new : List NodeKind) (change : CommChange) (rects : List RectParts) (rect : RectParts) (met unmet m n : ℕ) → unmet < length old → IsBranch old mid (all_fitted_behind change rects) met unmet m
    → IsBranch mid new (fitted_behind change rect) m unmet n → IsBranch old new (all_fitted_behind change (rect ∷ rects)) met unmet n
all_step old mid new change rects rect met unmet m n below first second = both_hold old mid new (all_fitted_behind change rects) (fitted_behind change rect) met unmet m n below first second

entries_step : (old mid new : List NodeKind) (change : CommChange) (entries : List CommEntry) (e : CommEntry) (met unmet m n : ℕ) → met < length old → unmet < length old → IsBranch old mid (entries_behind change entries) met unmet m
    → IsBranch mid new (test_behind change e.test) (if e.permit then met else unmet) m n → IsBranch old new (entries_behind change (e ∷ entries)) met unmet n
unfolding list_answers
entries_step old mid new change entries e met unmet m n one other first second =
    first_decides old mid new (entries_behind change entries) (test_behind change e.test) e.permit met unmet m n one other first second

or_by : (a b : Bool) → elim a [ true ↦ true | false ↦ b ] ≡ (a || b)
or_by true b = refl
or_by false b = refl

lists_step : (old mid new : List NodeKind) (change : CommChange) (lists : List CommList) (l : CommList) (met unmet m n : ℕ) → met < length old → unmet < length old → IsBranch old mid (lists_behind change lists) met unmet m
    → IsBranch mid new (entries_behind change l.entries) met m n → IsBranch old new (lists_behind change (l ∷ lists)) met unmet n
lists_step old mid new change lists l met unmet m n one other first second =
    let t : RouteParts → Bool = lists_behind change lists in
    let u : RouteParts → Bool = entries_behind change l.entries in
    same_branch old new (λ r. elim (u r) [ true ↦ true | false ↦ t r ]) (lists_behind change (l ∷ lists)) met unmet n (first_decides old mid new t u true met unmet m n one other first second) (λ r range. or_by (u r) (t r))

-- ---- the same for the loops

pub all_start : (old : List NodeKind) (change : CommChange) (rects : List RectParts) (met unmet : ℕ) → met < length old → Done (λ xs. IsBranch old old (all_fitted_behind change xs) met unmet met) rects rects
all_start old change rects met unmet below = none_done (λ xs. IsBranch old old (all_fitted_behind change xs) met unmet met) rects (always old (all_fitted_behind change []) met unmet below (λ r range. refl))

pub entries_start : (old : List NodeKind) (change : CommChange) (entries : List CommEntry) (met unmet : ℕ) → unmet < length old → Done (λ xs. IsBranch old old (entries_behind change xs) met unmet unmet) entries entries
unfolding list_answers
entries_start old change entries met unmet below = none_done (λ xs. IsBranch old old (entries_behind change xs) met unmet unmet) entries (never old (entries_behind change []) met unmet below (λ r range. refl))

pub lists_start : (old : List NodeKind) (change : CommChange) (lists : List CommList) (met unmet : ℕ) → unmet < length old → Done (λ xs. IsBranch old old (lists_behind change xs) met unmet unmet) lists lists
lists_start old change lists met unmet below = none_done (λ xs. IsBranch old old (lists_behind change xs) met unmet unmet) lists (never old (lists_behind change []) met unmet below (λ r range. refl))

pub all_next : (old mid new : List NodeKind) (change : CommChange) (rects rest : List RectParts) (rect : RectParts) (k met unmet m n : ℕ) → unmet < length old
    → Done (λ xs. IsBranch old mid (all_fitted_behind change xs) met unmet m) rects rest → 1 ≤ length rest → rect ≡ get_or rest (length rest - 1) rect → k ≡ length rest - 1
    → IsBranch mid new (fitted_behind change rect) m unmet n → Done (λ xs. IsBranch old new (all_fitted_behind change xs) met unmet n) rects (take k rest)
all_next old mid new change rects rest rect k met unmet m n below d long last short b =
    subst (λ (i : ℕ). Done (λ xs. IsBranch old new (all_fitted_behind change xs) met unmet n) rects (take i rest)) (sym short)
    (one_done (λ xs. IsBranch old mid (all_fitted_behind change xs) met unmet m) (λ xs. IsBranch old new (all_fitted_behind change xs) met unmet n) rects (take (length rest - 1) rest) rect
    (subst (λ (xs : List RectParts). Done (λ ys. IsBranch old mid (all_fitted_behind change ys) met unmet m) rects xs) (last_is rest rect long last) d)
    (λ behind first. all_step old mid new change behind rect met unmet m n below first b))

pub entries_next : (old mid new : List NodeKind) (change : CommChange) (entries rest : List CommEntry) (e : CommEntry) (k met unmet m n : ℕ) → met < length old → unmet < length old
    → Done (λ xs. IsBranch old mid (entries_behind change xs) met unmet m) entries rest → 1 ≤ length rest → e ≡ get_or rest (length rest - 1) e → k ≡ length rest - 1
    → IsBranch mid new (test_behind change e.test) (if e.permit then met else unmet) m n → Done (λ xs. IsBranch old new (entries_behind change xs) met unmet n) entries (take k rest)
entries_next old mid new change entries rest e k met unmet m n one other d long last short b =
    subst (λ (i : ℕ). Done (λ xs. IsBranch old new (entries_behind change xs) met unmet n) entries (take i rest)) (sym short)
    (one_done (λ xs. IsBranch old mid (entries_behind change xs) met unmet m) (λ xs. IsBranch old new (entries_behind change xs) met unmet n) entries (take (length rest - 1) rest) e
    (subst (λ (xs : List CommEntry). Done (λ ys. IsBranch old mid (entries_behind change ys) met unmet m) entries xs) (last_is rest e long last) d)
    (λ behind first. entries_step old mid new change behind e met unmet m n one other first b))

pub lists_next : (old mid new : List NodeKind) (change : CommChange) (lists rest : List CommList) (l : CommList) (k met unmet m n : ℕ) → met < length old → unmet < length old
    → Done (λ xs. IsBranch old mid (lists_behind change xs) met unmet m) lists rest → 1 ≤ length rest → l ≡ get_or rest (length rest - 1) l → k ≡ length rest - 1
    → IsBranch mid new (entries_behind change l.entries) met m n → Done (λ xs. IsBranch old new (lists_behind change xs) met unmet n) lists (take k rest)
lists_next old mid new change lists rest l k met unmet m n one other d long last short b =
    subst (λ (i : ℕ). Done (λ xs. IsBranch old new (lists_behind change xs) met unmet n) lists (take i rest)) (sym short)
    (one_done (λ xs. IsBranch old mid (lists_behind change xs) met unmet m) (λ xs. IsBranch old new (lists_behind change xs) met unmet n) lists (take (length rest - 1) rest) l
    (subst (λ (xs : List CommList). Done (λ ys. IsBranch old mid (lists_behind change ys) met unmet m) lists xs) (last_is rest l long last) d)
    (λ behind first. lists_step old mid new change behind l met unmet m n one other first b))

-- a list of no element
pub none_left : {A : Type 0} (xs : List A) → length xs ≤ 0 → xs ≡ []
none_left [] h = refl
none_left (x ∷ xs) h = absurd (omega (arith, h))
