-- What fits a rectangle behind a change is what was added and fits it, or what was there, fits it and wasn't removed.
use Rattle.std.proofs.Common.{◌≡◌, refl, sym, ap, ◌∙◌, Bool, true, false, cond, ◌&&◌, ◌||◌, List, [], ◌∷◌, ◌++◌}
use Rattle.std.specs.Prelude.{not, filter, ◌↔◌}
use Rattle.std.specs.List.{Any, list_any}
use Rattle.std.proofs.lemmas.List.Folds.{Any-from_list_any, list_any-from_Any, list_any-append}
use Rattle.route_types.specs.Sets.{fits_some}
use Rattle.route_types.specs.Community.{RectParts, fits, number}
use Rattle.route_types.specs.declared.community.Community.{Community}
use Rattle.route_types.specs.declared.community.CommChange.{CommChange}
use Rattle.route_types.proofs.Sets.{same_community, any-set}
use Rattle.community_sets.specs.Cuts.{Share, Covered}
use Rattle.community_sets.specs.declared.change.Cut.{Cut}
use Rattle.community_sets.specs.declared.change.Cut.TheVariants.{Never, Whole, Part}
use Rattle.community_cuts.specs.Earlier.{fitted, behind, member_by, ComesTo}

-- ---- what stands behind a change

any_by : {C : Type 0} (q : C → Bool) (c : C) (cs : List C) (b rest : Bool) → list_any q cs ≡ rest → list_any q (cond b (c ∷ cs) cs) ≡ ((b && q c) || rest)
any_by q c cs true rest e = ap (λ (r : Bool). q c || r) e
any_by q c cs false rest e = e

-- a test of what was kept
pub any_kept : {C : Type 0} (p q : C → Bool) (cs : List C) → list_any q (filter p cs) ≡ list_any (λ c. p c && q c) cs
any_kept p q [] = refl
any_kept p q (c ∷ cs) = any_by q c (filter p cs) (p c) (list_any (λ x. p x && q x) cs) (any_kept p q cs)

-- a test holds of some community behind a change where it holds of an added one, or of one that was there and not removed
pub any_behind : (q : Community → Bool) (change : CommChange) (set : List Community)
    → list_any q (behind change set) ≡ (list_any (λ c. not (fits_some fits change.removed c) && q c) set || list_any q change.added)
any_behind q change set =
    let left : List Community = filter (λ c. not (fits_some fits change.removed c)) set in
    any-set number same_community q (left ++ change.added)
    ∙ list_any-append q left change.added
    ∙ ap (λ (b : Bool). b || list_any q change.added) (any_kept (λ c. not (fits_some fits change.removed c)) q set)

pub any_same : {C : Type 0} (p q : C → Bool) (cs : List C) → ((c : C) → p c ≡ q c) → list_any p cs ≡ list_any q cs
any_same p q [] h = refl
any_same p q (c ∷ cs) h = ap (λ (b : Bool). b || list_any p cs) (h c) ∙ ap (λ (b : Bool). q c || b) (any_same p q cs h)

pub any_none : {C : Type 0} (p : C → Bool) (cs : List C) → ((c : C) → p c ≡ false) → list_any p cs ≡ false
any_none p [] h = refl
any_none p (c ∷ cs) h = ap (λ (b : Bool). b || list_any p cs) (h c) ∙ any_none p cs h

-- ---- by how the removals cut a rectangle

shares_at : (r : RectParts) (removed : List RectParts) (c : Community) → fits r c ≡ true → fits_some fits removed c ≡ true → Any (Share r) removed
shares_at r removed c one e =
    let a = Any-from_list_any (λ (s : RectParts). fits s c) removed e in
    (a.0, a.1, a.2, a.3, record { community = c; one = one; other = a.4 })

-- what no removal meets is kept
kept_at : (r : RectParts) (removed : List RectParts) → (Any (Share r) removed → ⊥) → (c : Community) (one met : Bool) → fits r c ≡ one → fits_some fits removed c ≡ met → (not met && one) ≡ one
kept_at r removed none c true true e f = absurd (none (shares_at r removed c e f))
kept_at r removed none c false true e f = refl
kept_at r removed none c one false e f = refl

covered_at : (r : RectParts) (removed : List RectParts) → Any (Covered r) removed → (c : Community) → fits r c ≡ true → fits_some fits removed c ≡ true
covered_at r removed a c e = list_any-from_Any (λ (s : RectParts). fits s c) removed (a.0, a.1, a.2, a.3, a.4.each c e)

-- of what one removal has all of, nothing is left
gone_at : (r : RectParts) (removed : List RectParts) → Any (Covered r) removed → (c : Community) (one met : Bool) → fits r c ≡ one → fits_some fits removed c ≡ met → (not met && one) ≡ false
gone_at r removed a c false true e f = refl
gone_at r removed a c false false e f = refl
gone_at r removed a c true true e f = refl
gone_at r removed a c true false e f = let x : false ≡ true = sym f ∙ covered_at r removed a c e in absurd cc

or_none : (a b : Bool) → b ≡ false → (a || b) ≡ a
or_none true b e = refl
or_none false b e = e

or_held : (a b : Bool) → b ≡ true → (a || b) ≡ true
or_held true b e = refl
or_held false b e = e

pub comes_to : (r : RectParts) (change : CommChange) (added : Bool) (cut : Cut) → added ≡ fitted r change.added → (cut ≡ Never) ↔ (Any (Share r) change.removed → ⊥) → (cut ≡ Whole) ↔ Any (Covered r) change.removed
    → ComesTo (member_by added cut) r change
comes_to r change true cut e never whole = λ set.
    any_behind (λ c. fits r c) change set ∙ or_held (list_any (λ c. not (fits_some fits change.removed c) && fits r c) set) (fitted r change.added) (sym e)
comes_to r change false Never e never whole = λ set.
    any_behind (λ c. fits r c) change set ∙ or_none (list_any (λ c. not (fits_some fits change.removed c) && fits r c) set) (fitted r change.added) (sym e)
    ∙ any_same (λ c. not (fits_some fits change.removed c) && fits r c) (λ c. fits r c) set (λ c. kept_at r change.removed (never.0 refl) c (fits r c) (fits_some fits change.removed c) refl refl)
comes_to r change false Whole e never whole = λ set.
    any_behind (λ c. fits r c) change set ∙ or_none (list_any (λ c. not (fits_some fits change.removed c) && fits r c) set) (fitted r change.added) (sym e)
    ∙ any_none (λ c. not (fits_some fits change.removed c) && fits r c) set (λ c. gone_at r change.removed (whole.0 refl) c (fits r c) (fits_some fits change.removed c) refl refl)
comes_to r change false Part e never whole =
    record { unadded = sym e; cut = record { met = λ none. let x : Part ≡ Never = never.1 none in absurd cc; left = λ covered. let x : Part ≡ Whole = whole.1 covered in absurd cc } }
