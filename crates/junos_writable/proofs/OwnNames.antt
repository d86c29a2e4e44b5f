-- The definitions of a plan have the policy's name, or stand under it.
use Rattle.std.proofs.Common.{◌≡◌, refl, sym, ap, subst, ◌∙◌, ℕ, ◌+◌, List, [], ◌∷◌, ◌++◌, false, map, append_assoc, inl, inr}
use Rattle.std.specs.Prelude.{decimal}
use Rattle.std.specs.List.{AllByRecursion, flat_map}
use Rattle.junos_tree.specs.Forms.{condition_form, action_form}
use Rattle.junos_tree.specs.Terms.{Content}
use Rattle.junos_tree.specs.declared.item.Action.{Action}
use Rattle.junos_tree.specs.declared.item.Condition.{Condition}
use Rattle.junos_tree.specs.declared.item.JunosForm.{JunosForm}
use Rattle.junos_tree.specs.declared.item.JunosItem.{JunosItem}
use Rattle.junos_reader.specs.Facts.{forms_of as forms_in}
use Rattle.junos_text.specs.Layout.{term_forms, option_forms, forms_of}
use Rattle.junos_text.specs.Written.{forms}
use Rattle.junos_text.specs.declared.option.PolicyOption.{PolicyOption}
use Rattle.junos_text.specs.declared.option.PolicyTerm.{PolicyTerm}
use Rattle.junos_plans.specs.declared.step.PlannedStep.{PlannedStep}
use Rattle.junos_layout.specs.Options.{Definitions, subroutine_name, defined_from, numbered, policy_of, options_of}
use Rattle.junos_layout.specs.Terms.{subroutine_terms, step_terms}
use Rattle.junos_layout.specs.Writing.{Writing}
use Rattle.junos_layout.proofs.DefinitionWalk.{options_join}
use Rattle.junos_layout.proofs.InProfile.{define_path, define_community, define_subroutine}
use Rattle.junos_writable.specs.Names.{IsOwnName, names_of}

-- ---- the forms of a tree

pub forms_same : (items : List JunosItem) → forms items ≡ forms_in items
forms_same [] = refl
forms_same (i ∷ is) = ap (λ (fs : List JunosForm). i.form ∷ fs) (forms_same is)

-- ---- forms without a name

past_conditions : (cs : List Condition) (rest : List JunosForm) → names_of (map (condition_form false) cs ++ rest) ≡ names_of rest
unfolding names_of
past_conditions [] rest = refl
past_conditions (c ∷ cs) rest = past_conditions cs rest

past_actions : (xs : List Action) (rest : List JunosForm) → names_of (map (action_form false) xs ++ rest) ≡ names_of rest
unfolding names_of
past_actions [] rest = refl
past_actions (x ∷ xs) rest = past_actions xs rest

past_terms : (ts : List PolicyTerm) (rest : List JunosForm) → names_of (flat_map term_forms ts ++ rest) ≡ names_of rest
unfolding names_of
past_terms [] rest = refl
past_terms (t ∷ ts) rest =
    let more : List JunosForm = flat_map term_forms ts in
    ap (λ (fs : List JunosForm). names_of fs) (append_assoc (term_forms t) more rest)
    ∙ ap (λ (fs : List JunosForm). names_of fs) (append_assoc (map (condition_form false) t.conditions) (map (action_form false) t.actions) (more ++ rest))
    ∙ past_conditions t.conditions (map (action_form false) t.actions ++ (more ++ rest))
    ∙ past_actions t.actions (more ++ rest)
    ∙ past_terms ts rest

-- ---- definitions

module _ (P : List ℕ → Type 0) where
  -- the names of these forms, before any others
  Own : List JunosForm → Type 0
  Own fs = (rest : List JunosForm) → AllByRecursion P (names_of rest) → AllByRecursion P (names_of (fs ++ rest))

  own_policy : (name : List ℕ) (ts : List Content) → P name → Own (option_forms (policy_of name ts))
  unfolding names_of Own
  own_policy name ts h rest more = (h, subst (λ (names : List (List ℕ)). AllByRecursion P names) (sym (past_terms (numbered 1 ts) rest)) more)

  own_definitions : {D : Type 0} (define : ℕ → D → PolicyOption) → ((n : ℕ) (d : D) → Own (option_forms (define n d))) → (from : ℕ) (ds : List D) → Own (forms_of (defined_from define from ds))
  unfolding Own defined_from
  own_definitions define each from [] rest more = more
  own_definitions define each from (d ∷ ds) rest more =
      let later : List JunosForm = forms_of (defined_from define (from + 1) ds) in
      subst (λ (fs : List JunosForm). AllByRecursion P (names_of fs)) (sym (append_assoc (option_forms (define from d)) later rest))
      (each from d (later ++ rest) (own_definitions define each (from + 1) ds rest more))

-- ---- the whole

module _ (name : List ℕ) (defs : Definitions) (w : Writing) (steps : List PlannedStep) where
  pub own_names : AllByRecursion (IsOwnName name) (names_of (forms_of (options_of name defs w steps)))
  unfolding names_of Own
  own_names =
      let last : List PolicyOption = policy_of name (step_terms w steps) ∷ [] in
      let third : List PolicyOption = defined_from (define_subroutine name w) 0 defs.subroutines ++ last in
      let second : List PolicyOption = defined_from (define_community name) 0 defs.communities ++ third in
      let P : List ℕ → Type 0 = IsOwnName name in
      let at_last : AllByRecursion P (names_of (forms_of last)) = own_policy P name (step_terms w steps) (inl refl) [] tt in
      let at_third : AllByRecursion P (names_of (forms_of third)) =
      subst (λ (fs : List JunosForm). AllByRecursion P (names_of fs)) (sym (options_join (defined_from (define_subroutine name w) 0 defs.subroutines) last))
      (own_definitions P (define_subroutine name w) (λ n s. own_policy P (subroutine_name name n) (subroutine_terms w s) (inr (115 ∷ decimal (n + 1), refl))) 0 defs.subroutines (forms_of last) at_last) in
      let at_second : AllByRecursion P (names_of (forms_of second)) =
      subst (λ (fs : List JunosForm). AllByRecursion P (names_of fs)) (sym (options_join (defined_from (define_community name) 0 defs.communities) third))
      (own_definitions P (define_community name) (λ n members rest more. (inr (99 ∷ decimal (n + 1), refl), more)) 0 defs.communities (forms_of third) at_third) in
      subst (λ (fs : List JunosForm). AllByRecursion P (names_of fs)) (sym (options_join (defined_from (define_path name) 0 defs.paths) second))
      (own_definitions P (define_path name) (λ n text rest more. (inr (97 ∷ decimal (n + 1), refl), more)) 0 defs.paths (forms_of second) at_second)
