-- One condition for several terms and lists.
use Rattle.std.proofs.Common.{◌≡◌, refl, sym, ap, ◌∙◌, ◌≤◌, Bool, true, false, ◌||◌, List, [], ◌∷◌, ◌++◌, length, arith}
use Rattle.std.specs.List.{list_any}
use Rattle.path_patterns.proofs.Lists.{all_append}
use Rattle.junos_plans.specs.Conditions.{entries_accept}
use Rattle.junos_plans.specs.Entries.{or_never}
use Rattle.junos_plans.specs.Fits.{SomeFit}
use Rattle.junos_plans.specs.declared.condition.PlannedCondition.{PlannedCondition}
use Rattle.junos_plans.specs.declared.condition.PlannedEntry.{PlannedEntry}
use Rattle.junos_plans.specs.declared.condition.PlannedList.{PlannedList}

longer : {A : Type 0} (xs ys : List A) → 1 ≤ length xs → 1 ≤ length (xs ++ ys)
longer [] ys h = absurd (omega (arith, h))
longer (x ∷ xs) ys h = omega arith

-- some and some more
pub some_append : {A : Type 0} (P : A → Type 0) (xs ys : List A) → SomeFit P xs → SomeFit P ys → SomeFit P (xs ++ ys)
some_append P xs ys h k = (longer xs ys h.0, all_append P xs ys h.1 k.1)

pub or_three : (a b c : Bool) → ((a || b) || c) ≡ (a || (b || c))
or_three true b c = refl
or_three false b c = refl

-- a term that accepts, before others
permits : (here permit later : Bool) → permit ≡ true → ◌≡◌ {A = Bool} (elim here [ true ↦ permit | false ↦ later ]) (here || later)
permits true permit later e = e
permits false permit later e = refl

pub entry_gathered : (holds : PlannedCondition → Bool) (before after : Bool) (e : PlannedEntry) (es : List PlannedEntry) → e.permit ≡ true → after ≡ (before || holds e.condition)
    → (after || entries_accept holds es) ≡ (before || entries_accept holds (e ∷ es))
unfolding entries_accept
entry_gathered holds before after e es permit says =
    ap (λ (b : Bool). b || entries_accept holds es) says
    ∙ or_three before (holds e.condition) (entries_accept holds es)
    ∙ ap (λ (b : Bool). before || b) (sym (permits (holds e.condition) e.permit (entries_accept holds es) permit))

pub list_gathered : (holds : PlannedCondition → Bool) (before after : Bool) (l : PlannedList) (ls : List PlannedList) → after ≡ (before || entries_accept holds l.entries)
    → (after || list_any (λ k. entries_accept holds k.entries) ls) ≡ (before || list_any (λ k. entries_accept holds k.entries) (l ∷ ls))
list_gathered holds before after l ls says =
    ap (λ (b : Bool). b || list_any (λ k. entries_accept holds k.entries) ls) says
    ∙ or_three before (entries_accept holds l.entries) (list_any (λ k. entries_accept holds k.entries) ls)

-- a list without terms accepts nothing
pub never_adds : (holds : PlannedCondition → Bool) (ls : List PlannedList) → list_any (λ l. entries_accept holds l.entries) (or_never ls) ≡ list_any (λ l. entries_accept holds l.entries) ls
unfolding entries_accept
never_adds holds [] = refl
never_adds holds (l ∷ ls) = refl
