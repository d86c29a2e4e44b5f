-- What one more form in front gives to the terms of a policy.
use Rattle.std.proofs.Common.{◌≡◌, refl, sym, ap, ◌∙◌, Bool, true, false, List, [], ◌∷◌, ◌++◌, Option, Some, None}
use Rattle.std.specs.Prelude.{map, not, ◌&&◌, ◌||◌}
use Rattle.std.specs.Borrow.{Bor}
use Rattle.std.proofs.lemmas.Bool.{true≢false}
use Rattle.std.proofs.lemmas.List.{map-append}
use Rattle.junos_tree.specs.Sorts.{is_inner}
use Rattle.junos_tree.specs.Terms.{Content, Term, Parts, parts, own_forms, is_term_header, nothing, asks_first, does_first, with_form}
use Rattle.junos_tree.specs.declared.item.Condition.{Condition}
use Rattle.junos_tree.specs.declared.item.Action.{Action}
use Rattle.junos_tree.specs.declared.item.JunosForm.{JunosForm}
use Rattle.junos_tree.specs.declared.item.JunosForm.TheVariants.{PrefixList as ListForm, Member, Community as CommunityForm, AsPath as PathForm, Policy as PolicyForm, Term as TermHeader, Condition as IsCondition, Action as IsAction, Other}
use Rattle.junos_tree.specs.declared.item.TermCondition.{TermCondition}
use Rattle.junos_tree.specs.declared.item.TermAction.{TermAction}
use Rattle.junos_meaning.specs.Sets.{contents_of}
use Rattle.junos_meaning.specs.declared.regions.Region.{Region}
use Rattle.junos_meaning.specs.Regions.{content_of, part_of, named_contents, ends_region, same, where_so, condition_in, action_in}

-- what the forms of a policy are, from some place on
abbrev pub own_parts : List JunosForm → Parts
own_parts fs = parts (own_forms fs)

-- one more in front, where it is there
abbrev pub onto : {A : Type 0} → Option A → List A → List A
onto None xs = xs
onto (Some x) xs = x ∷ xs

-- ---- the block of a policy

abbrev own_by : JunosForm → List JunosForm → Bool → List JunosForm
own_by f fs b = elim b [ true ↦ f ∷ own_forms fs | false ↦ [] ]

own_end : (f : JunosForm) (fs : List JunosForm) → is_inner f ≡ false → own_forms (f ∷ fs) ≡ []
unfolding own_forms
own_end f fs e = ap (own_by f fs) e

own_more : (f : JunosForm) (fs : List JunosForm) → is_inner f ≡ true → own_forms (f ∷ fs) ≡ f ∷ own_forms fs
unfolding own_forms
own_more f fs e = ap (own_by f fs) e

-- ---- one term

-- the content with a condition and an action in front, where they are there
abbrev with_front : Option Condition → Option Action → Content → Content
with_front c a content = record { conditions = onto c content.conditions; actions = onto a content.actions }

by_condition : (u b : Bool) (c : TermCondition) (p : Parts)
    → part_of u (elim b [ true ↦ record p { unnamed = asks_first c.condition p.unnamed } | false ↦ record p { here = asks_first c.condition p.here } ])
    ≡ with_front (where_so (same u b) c.condition) None (part_of u p)
by_condition true true c p = refl
by_condition true false c p = refl
by_condition false true c p = refl
by_condition false false c p = refl

by_action : (u b : Bool) (a : TermAction) (p : Parts)
    → part_of u (elim b [ true ↦ record p { unnamed = does_first a.action p.unnamed } | false ↦ record p { here = does_first a.action p.here } ])
    ≡ with_front None (where_so (same u b) a.action) (part_of u p)
by_action true true a p = refl
by_action true false a p = refl
by_action false true a p = refl
by_action false false a p = refl

-- one more form of the region
more : (u : Bool) (f : JunosForm) (p : Parts) → (not u && is_term_header f) ≡ false → part_of u (with_form f p) ≡ with_front (condition_in u f) (action_in u f) (part_of u p)
more true (TermHeader name) p e = refl
more false (TermHeader name) p e = absurd (true≢false e)
more u (IsCondition c) p e = by_condition u c.unnamed c p
more u (IsAction a) p e = by_action u a.unnamed a p
more u (ListForm name) p e = refl
more u (Member m) p e = refl
more u (CommunityForm c) p e = refl
more u (PathForm c) p e = refl
more u (PolicyForm name) p e = refl
more u (Other o) p e = refl

-- the form that ends the region
ended : (u : Bool) (f : JunosForm) (p : Parts) → (not u && is_term_header f) ≡ true → part_of u (with_form f p) ≡ nothing
ended true f p e = absurd (true≢false (sym e))
ended false (TermHeader name) p e = refl
ended false (IsCondition c) p e = absurd (true≢false (sym e))
ended false (IsAction a) p e = absurd (true≢false (sym e))
ended false (ListForm name) p e = absurd (true≢false (sym e))
ended false (Member m) p e = absurd (true≢false (sym e))
ended false (CommunityForm c) p e = absurd (true≢false (sym e))
ended false (PathForm c) p e = absurd (true≢false (sym e))
ended false (PolicyForm name) p e = absurd (true≢false (sym e))
ended false (Other o) p e = absurd (true≢false (sym e))

-- what a term has behind its last form
pub nothing_left : (u : Bool) → part_of u (parts []) ≡ nothing
unfolding parts
nothing_left true = refl
nothing_left false = refl

end_by : (u : Bool) (f : JunosForm) (fs : List JunosForm) (b : Bool) → is_inner f ≡ b → (not b || (not u && is_term_header f)) ≡ true → part_of u (own_parts (f ∷ fs)) ≡ nothing
unfolding parts
end_by u f fs true inner e = ap (λ (gs : List JunosForm). part_of u (parts gs)) (own_more f fs inner) ∙ ended u f (own_parts fs) e
end_by u f fs false inner e = ap (λ (gs : List JunosForm). part_of u (parts gs)) (own_end f fs inner) ∙ nothing_left u

-- a region ends before this form
pub region_ends : (u : Bool) (f : JunosForm) (fs : List JunosForm) → ends_region u f ≡ true → part_of u (own_parts (f ∷ fs)) ≡ nothing
region_ends u f fs e = end_by u f fs (is_inner f) refl e

more_by : (u : Bool) (f : JunosForm) (fs : List JunosForm) (b : Bool) → is_inner f ≡ b → (not b || (not u && is_term_header f)) ≡ false
    → part_of u (own_parts (f ∷ fs)) ≡ with_front (condition_in u f) (action_in u f) (part_of u (own_parts fs))
unfolding parts
more_by u f fs true inner e = ap (λ (gs : List JunosForm). part_of u (parts gs)) (own_more f fs inner) ∙ more u f (own_parts fs) e
more_by u f fs false inner e = absurd (true≢false e)

pub conditions_end : (u : Bool) (f : JunosForm) (fs : List JunosForm) → ends_region u f ≡ true → (part_of u (parts (own_forms (f ∷ fs)))).conditions ≡ []
conditions_end u f fs e = ap (λ (c : Content). c.conditions) (region_ends u f fs e)

pub actions_end : (u : Bool) (f : JunosForm) (fs : List JunosForm) → ends_region u f ≡ true → (part_of u (parts (own_forms (f ∷ fs)))).actions ≡ []
actions_end u f fs e = ap (λ (c : Content). c.actions) (region_ends u f fs e)

-- what one more form gives to a term
pub condition_more : (u : Bool) (f : JunosForm) (fs : List JunosForm) → ends_region u f ≡ false
    → (part_of u (own_parts (f ∷ fs))).conditions ≡ onto (condition_in u f) (part_of u (own_parts fs)).conditions
condition_more u f fs e = ap (λ (c : Content). c.conditions) (more_by u f fs (is_inner f) refl e)

pub action_more : (u : Bool) (f : JunosForm) (fs : List JunosForm) → ends_region u f ≡ false
    → (part_of u (own_parts (f ∷ fs))).actions ≡ onto (action_in u f) (part_of u (own_parts fs)).actions
action_more u f fs e = ap (λ (c : Content). c.actions) (more_by u f fs (is_inner f) refl e)

-- ---- all terms

-- the form in front of which the policy ends
pub policy_ends : (f : JunosForm) (fs : List JunosForm) → is_inner f ≡ false → named_contents (own_parts (f ∷ fs)) ≡ []
unfolding parts
policy_ends f fs outer = ap (λ (gs : List JunosForm). named_contents (parts gs)) (own_end f fs outer)

term_front : (f : JunosForm) (p : Parts) → is_term_header f ≡ true → named_contents (with_form f p) ≡ p.here ∷ named_contents p
term_front (TermHeader name) p e = refl
term_front (IsCondition c) p e = absurd (true≢false (sym e))
term_front (IsAction a) p e = absurd (true≢false (sym e))
term_front (ListForm name) p e = absurd (true≢false (sym e))
term_front (Member m) p e = absurd (true≢false (sym e))
term_front (CommunityForm c) p e = absurd (true≢false (sym e))
term_front (PathForm c) p e = absurd (true≢false (sym e))
term_front (PolicyForm name) p e = absurd (true≢false (sym e))
term_front (Other o) p e = absurd (true≢false (sym e))

-- a header starts a term
pub term_starts : (f : JunosForm) (fs : List JunosForm) → is_inner f ≡ true → is_term_header f ≡ true
    → named_contents (own_parts (f ∷ fs)) ≡ part_of false (own_parts fs) ∷ named_contents (own_parts fs)
unfolding parts
term_starts f fs inner header = ap (λ (gs : List JunosForm). named_contents (parts gs)) (own_more f fs inner) ∙ term_front f (own_parts fs) header

by_sort : (b : Bool) (p : Parts) (x y : Content) → named_contents (elim b [ true ↦ record p { unnamed = x } | false ↦ record p { here = y } ]) ≡ named_contents p
by_sort true p x y = refl
by_sort false p x y = refl

term_same : (f : JunosForm) (p : Parts) → is_term_header f ≡ false → named_contents (with_form f p) ≡ named_contents p
term_same (TermHeader name) p e = absurd (true≢false e)
term_same (IsCondition c) p e = by_sort c.unnamed p (asks_first c.condition p.unnamed) (asks_first c.condition p.here)
term_same (IsAction a) p e = by_sort a.unnamed p (does_first a.action p.unnamed) (does_first a.action p.here)
term_same (ListForm name) p e = refl
term_same (Member m) p e = refl
term_same (CommunityForm c) p e = refl
term_same (PathForm c) p e = refl
term_same (PolicyForm name) p e = refl
term_same (Other o) p e = refl

-- another form of the policy starts none
pub term_goes : (f : JunosForm) (fs : List JunosForm) → is_inner f ≡ true → is_term_header f ≡ false → named_contents (own_parts (f ∷ fs)) ≡ named_contents (own_parts fs)
unfolding parts
term_goes f fs inner other = ap (λ (gs : List JunosForm). named_contents (parts gs)) (own_more f fs inner) ∙ term_same f (own_parts fs) other

-- the term without a name stands behind the named ones
pub unnamed_last : (fs : List JunosForm) → contents_of (own_forms fs) ≡ named_contents (own_parts fs) ++ (part_of true (own_parts fs) ∷ [])
unnamed_last fs = map-append (λ (t : Term). t.content) (own_parts fs).terms (record { name = None; content = (own_parts fs).unnamed } ∷ [])

-- ---- what was found so far, behind one more form

pushed : {A : Type 0} (xs : List A) (x : A) (ys : List A) → (xs ++ (x ∷ [])) ++ ys ≡ xs ++ (x ∷ ys)
pushed [] x ys = refl
pushed {A} (z ∷ xs) x ys = ap (λ (zs : List A). z ∷ zs) (pushed xs x ys)

-- a term that starts
pub found_term : (found more : List Region) (r : Region) (f : JunosForm) (fs : List JunosForm)
    → more ≡ found ++ (r ∷ []) → content_of r ≡ part_of false (own_parts fs) → is_inner f ≡ true → is_term_header f ≡ true
    → map content_of more ++ named_contents (own_parts fs) ≡ map content_of found ++ named_contents (own_parts (f ∷ fs))
found_term found more r f fs is here inner header =
    ap (λ (rs : List Region). map content_of rs ++ named_contents (own_parts fs)) is
    ∙ ap (λ (cs : List Content). cs ++ named_contents (own_parts fs)) (map-append content_of found (r ∷ []))
    ∙ pushed (map content_of found) (content_of r) (named_contents (own_parts fs))
    ∙ ap (λ (c : Content). map content_of found ++ (c ∷ named_contents (own_parts fs))) here
    ∙ ap (λ (cs : List Content). map content_of found ++ cs) (sym (term_starts f fs inner header))

-- a form that starts none
pub found_same : (found : List Region) (f : JunosForm) (fs : List JunosForm) → is_inner f ≡ true → is_term_header f ≡ false
    → map content_of found ++ named_contents (own_parts fs) ≡ map content_of found ++ named_contents (own_parts (f ∷ fs))
found_same found f fs inner other = ap (λ (cs : List Content). map content_of found ++ cs) (sym (term_goes f fs inner other))

-- a condition, or an action, that is found
pub found_condition : (u : Bool) (found : List Condition) (f : JunosForm) (fs : List JunosForm) (c : Condition) → ends_region u f ≡ false → condition_in u f ≡ Some c
    → (found ++ (c ∷ [])) ++ (part_of u (own_parts fs)).conditions ≡ found ++ (part_of u (own_parts (f ∷ fs))).conditions
found_condition u found f fs c inside here =
    pushed found c (part_of u (own_parts fs)).conditions
    ∙ ap (λ (o : Option Condition). found ++ onto o (part_of u (own_parts fs)).conditions) (sym here)
    ∙ ap (λ (cs : List Condition). found ++ cs) (sym (condition_more u f fs inside))

pub no_condition : (u : Bool) (found : List Condition) (f : JunosForm) (fs : List JunosForm) → ends_region u f ≡ false → condition_in u f ≡ None
    → found ++ (part_of u (own_parts fs)).conditions ≡ found ++ (part_of u (own_parts (f ∷ fs))).conditions
no_condition u found f fs inside none =
    ap (λ (o : Option Condition). found ++ onto o (part_of u (own_parts fs)).conditions) (sym none)
    ∙ ap (λ (cs : List Condition). found ++ cs) (sym (condition_more u f fs inside))

pub found_action : (u : Bool) (found : List Action) (f : JunosForm) (fs : List JunosForm) (a : Action) → ends_region u f ≡ false → action_in u f ≡ Some a
    → (found ++ (a ∷ [])) ++ (part_of u (own_parts fs)).actions ≡ found ++ (part_of u (own_parts (f ∷ fs))).actions
found_action u found f fs a inside here =
    pushed found a (part_of u (own_parts fs)).actions
    ∙ ap (λ (o : Option Action). found ++ onto o (part_of u (own_parts fs)).actions) (sym here)
    ∙ ap (λ (actions : List Action). found ++ actions) (sym (action_more u f fs inside))

pub no_action : (u : Bool) (found : List Action) (f : JunosForm) (fs : List JunosForm) → ends_region u f ≡ false → action_in u f ≡ None
    → found ++ (part_of u (own_parts fs)).actions ≡ found ++ (part_of u (own_parts (f ∷ fs))).actions
no_action u found f fs inside none =
    ap (λ (o : Option Action). found ++ onto o (part_of u (own_parts fs)).actions) (sym none)
    ∙ ap (λ (actions : List Action). found ++ actions) (sym (action_more u f fs inside))

-- the vector behind a condition that was pushed
pub push_condition : (u : Bool) (found more : List (Bor Condition)) (x : Bor Condition) (f : JunosForm) (fs : List JunosForm)
    → more ≡ found ++ (x ∷ []) → ends_region u f ≡ false → condition_in u f ≡ Some x.now
    → map (λ y. y.now) more ++ (part_of u (own_parts fs)).conditions ≡ map (λ y. y.now) found ++ (part_of u (own_parts (f ∷ fs))).conditions
push_condition u found more x f fs is inside here =
    ap (λ (xs : List (Bor Condition)). map (λ y. y.now) xs ++ (part_of u (own_parts fs)).conditions) is
    ∙ ap (λ (xs : List Condition). xs ++ (part_of u (own_parts fs)).conditions) (map-append (λ (y : Bor Condition). y.now) found (x ∷ []))
    ∙ found_condition u (map (λ y. y.now) found) f fs x.now inside here

-- the vector behind an action that was pushed
pub push_action : (u : Bool) (found more : List (Bor Action)) (x : Bor Action) (f : JunosForm) (fs : List JunosForm)
    → more ≡ found ++ (x ∷ []) → ends_region u f ≡ false → action_in u f ≡ Some x.now
    → map (λ y. y.now) more ++ (part_of u (own_parts fs)).actions ≡ map (λ y. y.now) found ++ (part_of u (own_parts (f ∷ fs))).actions
push_action u found more x f fs is inside here =
    ap (λ (xs : List (Bor Action)). map (λ y. y.now) xs ++ (part_of u (own_parts fs)).actions) is
    ∙ ap (λ (xs : List Action). xs ++ (part_of u (own_parts fs)).actions) (map-append (λ (y : Bor Action). y.now) found (x ∷ []))
    ∙ found_action u (map (λ y. y.now) found) f fs x.now inside here
