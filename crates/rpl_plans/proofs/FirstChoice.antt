-- A list by first match holds exactly where one of its terms does.
use Rattle.std.proofs.Common.{◌≡◌, refl, sym, ap, ◌∙◌, Bool, true, false, ◌&&◌, ◌||◌, not, List, [], ◌∷◌, ◌++◌, Option, Some, None}
use Rattle.std.specs.Bool.{beq}
use Rattle.std.specs.List.{list_any, list_all}
use Rattle.rpl_plans.specs.Choices.{first_choice, term_holds, joined, joined_choice, grouped_from, grouped, terms_from}
use Rattle.rpl_plans.specs.declared.choice.Choice.{Choice}
use Rattle.rpl_plans.specs.declared.test.PlannedTest.{PlannedTest}

-- ---- terms

-- of two conditions that are joined one after the other
all_behind : {A : Type 0} (f : A → Bool) (xs : List A) (x : A) → list_all f (xs ++ x ∷ []) ≡ (list_all f xs && f x)
all_behind f [] x = by_cases (f x) where
  by_cases : (b : Bool) → (b && true) ≡ b
  by_cases true = refl
  by_cases false = refl
all_behind f (y ∷ ys) x = ap (λ b. f y && b) (all_behind f ys x) ∙ by_cases (f y) (list_all f ys) (f x) where
  by_cases : (a b c : Bool) → (a && (b && c)) ≡ ((a && b) && c)
  by_cases true b c = refl
  by_cases false b c = refl

permits_step : (open_so_far here later : Bool) → ((open_so_far && here) || (open_so_far && later)) ≡ (open_so_far && elim here [ true ↦ true | false ↦ later ])
permits_step true true later = refl
permits_step true false later = refl
permits_step false here later = refl

denies_step : (open_so_far here later : Bool) → ((open_so_far && not here) && later) ≡ (open_so_far && elim here [ true ↦ false | false ↦ later ])
denies_step true true later = refl
denies_step true false later = refl
denies_step false here later = refl

pub joined_parts : {A : Type 0} (b : Bool) (o : Option A) (x : A) → elim b [ true ↦ o | false ↦ None ] ≡ Some x → (b ≡ true) × (o ≡ Some x)
joined_parts true o x e = (refl, e)
joined_parts false o x e = absurd cc

-- of two entries of one action the first that holds decides as the one in their place
abbrev decided : Bool → Bool → Bool → Bool
decided here answer later = elim here [ true ↦ answer | false ↦ later ]

same_action : (p q one other later : Bool) → beq p q ≡ true → decided (one || other) p later ≡ decided one p (decided other q later)
same_action p q true other later e = refl
same_action true true false true later e = refl
same_action false false false true later e = refl
same_action true false false true later e = absurd cc
same_action false true false true later e = absurd cc
same_action p q false false later e = refl

never_more : (b : Bool) → (b && false) ≡ false
never_more true = refl
never_more false = refl

module _ (holds : PlannedTest → Bool) where
  -- the entries behind deny sets hold where none of those does, and the first of them that holds permits
  pub terms_decide : (denied : List PlannedTest) (cs : List Choice) → list_any (term_holds holds) (terms_from denied cs) ≡ (list_all (λ d. not (holds d)) denied && first_choice holds cs)
  unfolding terms_from first_choice
  terms_decide denied [] = sym (never_more (list_all (λ d. not (holds d)) denied))
  terms_decide denied (c ∷ cs) = one c.permit (terms_decide denied cs) (terms_decide (denied ++ c.test ∷ []) cs) where
    one : (p : Bool) → list_any (term_holds holds) (terms_from denied cs) ≡ (list_all (λ d. not (holds d)) denied && first_choice holds cs)
        → list_any (term_holds holds) (terms_from (denied ++ c.test ∷ []) cs) ≡ (list_all (λ d. not (holds d)) (denied ++ c.test ∷ []) && first_choice holds cs)
        → list_any (term_holds holds) (elim p [ true ↦ record { denied = denied; permitted = c.test } ∷ terms_from denied cs | false ↦ terms_from (denied ++ c.test ∷ []) cs ])
        ≡ (list_all (λ d. not (holds d)) denied && elim (holds c.test) [ true ↦ p | false ↦ first_choice holds cs ])
    one true more behind =
        ap (λ b. (list_all (λ d. not (holds d)) denied && holds c.test) || b) more
        ∙ permits_step (list_all (λ d. not (holds d)) denied) (holds c.test) (first_choice holds cs)
    one false more behind =
        behind
        ∙ ap (λ b. b && first_choice holds cs) (all_behind (λ d. not (holds d)) denied c.test)
        ∙ denies_step (list_all (λ d. not (holds d)) denied) (holds c.test) (first_choice holds cs)

  -- a list's terms hold where its first entry that holds permits
  pub list_terms : (cs : List Choice) → list_any (term_holds holds) (terms_from [] cs) ≡ first_choice holds cs
  list_terms cs = terms_decide [] cs

  -- two tests in place of which one stands hold where that does
  abbrev JoinsRight : Type 0
  JoinsRight = (t u v : PlannedTest) → joined t u ≡ Some v → holds v ≡ (holds t || holds u)

  pub grouped_decide : JoinsRight → (c : Choice) (cs : List Choice) → first_choice holds (grouped_from c cs) ≡ first_choice holds (c ∷ cs)
  unfolding grouped_from first_choice
  grouped_decide right c [] = refl
  grouped_decide right c (d ∷ ds) = one (joined_choice c d) refl (λ e. grouped_decide right e ds) where
    one : (o : Option PlannedTest) → joined_choice c d ≡ o → ((e : Choice) → first_choice holds (grouped_from e ds) ≡ first_choice holds (e ∷ ds))
        → first_choice holds (elim o [ Some test ↦ grouped_from (record { permit = c.permit; test = test }) ds | None ↦ c ∷ grouped_from d ds ])
        ≡ decided (holds c.test) c.permit (decided (holds d.test) d.permit (first_choice holds ds))
    one (Some test) e more =
        let parts = joined_parts (beq c.permit d.permit) (joined c.test d.test) test e in
        more (record { permit = c.permit; test = test })
        ∙ ap (λ (b : Bool). decided b c.permit (first_choice holds ds)) (right c.test d.test test parts.1)
        ∙ same_action c.permit d.permit (holds c.test) (holds d.test) (first_choice holds ds) parts.0
    one None e more = ap (λ (b : Bool). decided (holds c.test) c.permit b) (more d)

  pub groups_decide : JoinsRight → (cs : List Choice) → first_choice holds (grouped cs) ≡ first_choice holds cs
  unfolding first_choice
  groups_decide right [] = refl
  groups_decide right (c ∷ cs) = grouped_decide right c cs
