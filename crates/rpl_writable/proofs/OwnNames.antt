-- The blocks of a plan have the policy's name, or stand under it.
use Rattle.std.proofs.Common.{◌≡◌, refl, sym, ap, subst, ◌∙◌, ℕ, ◌+◌, Bool, List, [], ◌∷◌, ◌++◌, map, append_assoc, inl, inr}
use Rattle.std.specs.Prelude.{decimal}
use Rattle.std.specs.List.{AllByRecursion}
use Rattle.rpl_words.specs.declared.element.Element.{Element as SetElement}
use Rattle.rpl_forms.specs.declared.item.Action.{Action}
use Rattle.rpl_forms.specs.declared.item.Header.{Header}
use Rattle.rpl_forms.specs.declared.item.Header.TheVariants.{PrefixSet, CommunitySet, PathSet, Policy}
use Rattle.rpl_forms.specs.declared.item.PolicyStatement.TheVariants.{EndIf}
use Rattle.rpl_forms.specs.declared.item.RplForm.{RplForm}
use Rattle.rpl_forms.specs.declared.item.RplForm.TheVariants.{Header as OfHeader, Element as OfElement, Statement, End}
use Rattle.rpl_plans.specs.declared.step.PlannedLiteral.{PlannedLiteral}
use Rattle.rpl_plans.specs.declared.step.PlannedStep.{PlannedStep}
use Rattle.rpl_layout.specs.Forms.{PlannedSets, prefix_name, community_name, path_name, prefix_elements, community_elements, path_elements, community_blocks, path_blocks, blocks_from, forms_of}
use Rattle.rpl_layout.specs.Guards.{Writing}
use Rattle.rpl_layout.specs.Statements.{actions_of, body_of, step_forms, steps_forms}
use Rattle.rpl_text.specs.Blocks.{name_of, names_of}
use Rattle.rpl_writable.specs.Names.{IsOwnName}

-- ---- forms without a name

past_elements : (es : List SetElement) (rest : List RplForm) → names_of (map OfElement es ++ (End ∷ rest)) ≡ names_of rest
unfolding names_of
past_elements [] rest = refl
past_elements (e ∷ es) rest = past_elements es rest

past_body : (xs : List Action) (accept : Bool) (rest : List RplForm) → names_of (body_of xs accept ++ rest) ≡ names_of rest
unfolding names_of
past_body [] accept rest = refl
past_body (x ∷ xs) accept rest = past_body xs accept rest

module _ (written : Writing) where
  past_step : (guard : List PlannedLiteral) (xs : List Action) (accept : Bool) (following rest : List RplForm) → names_of (following ++ rest) ≡ names_of rest
      → names_of (step_forms written guard (body_of xs accept) following ++ rest) ≡ names_of rest
  unfolding names_of
  past_step [] xs accept following rest e = past_body xs accept rest
  past_step (l ∷ ls) xs accept following rest e =
      ap (λ (fs : List RplForm). names_of fs) (append_assoc (body_of xs accept) (Statement EndIf ∷ following) rest)
      ∙ past_body xs accept (Statement EndIf ∷ (following ++ rest))
      ∙ e

  past_steps : (steps : List PlannedStep) (rest : List RplForm) → names_of (steps_forms written steps ++ rest) ≡ names_of rest
  unfolding steps_forms
  past_steps [] rest = refl
  past_steps (s ∷ ss) rest = past_step s.guard (actions_of s.actions) s.accept (steps_forms written ss) rest (past_steps ss rest)

-- ---- blocks

module _ {D : Type 0} (P : List ℕ → Type 0) (head : ℕ → Header) (elements : D → List SetElement) (heads : (n : ℕ) → P (name_of (head n))) where
  blocks_named : (from : ℕ) (ds : List D) (rest : List RplForm) → AllByRecursion P (names_of rest) → AllByRecursion P (names_of (blocks_from head elements from ds ++ rest))
  unfolding names_of blocks_from
  blocks_named from [] rest more = more
  blocks_named from (d ∷ ds) rest more =
      let later : List RplForm = blocks_from head elements (from + 1) ds in
      let same : names_of (((map OfElement (elements d) ++ End ∷ []) ++ later) ++ rest) ≡ names_of (later ++ rest) =
      ap (λ (fs : List RplForm). names_of fs) (append_assoc (map OfElement (elements d) ++ End ∷ []) later rest ∙ append_assoc (map OfElement (elements d)) (End ∷ []) (later ++ rest))
      ∙ past_elements (elements d) (later ++ rest) in
      (heads from, subst (λ (names : List (List ℕ)). AllByRecursion P names) (sym same) (blocks_named (from + 1) ds rest more))

-- ---- the whole

pub own_names : (name : List ℕ) (sets : PlannedSets) (written : Writing) (steps : List PlannedStep) → AllByRecursion (IsOwnName name) (names_of (forms_of name sets written steps))
unfolding names_of
own_names name sets written steps =
    let policy : List RplForm = OfHeader (Policy (record { name = name; parameters = [] })) ∷ (steps_forms written steps ++ End ∷ []) in
    let last : AllByRecursion (IsOwnName name) (names_of policy) = (inl refl, subst (λ (names : List (List ℕ)). AllByRecursion (IsOwnName name) names) (sym (past_steps written steps (End ∷ []))) tt) in
    blocks_named (IsOwnName name) (λ n. PrefixSet (prefix_name name n)) prefix_elements (λ n. inr (112 ∷ decimal (n + 1), refl)) 0 sets.prefixes (community_blocks name sets.communities ++ (path_blocks name sets.paths ++ policy))
    (blocks_named (IsOwnName name) (λ n. CommunitySet (community_name name n)) community_elements (λ n. inr (99 ∷ decimal (n + 1), refl)) 0 sets.communities (path_blocks name sets.paths ++ policy)
    (blocks_named (IsOwnName name) (λ n. PathSet (path_name name n)) path_elements (λ n. inr (97 ∷ decimal (n + 1), refl)) 0 sets.paths policy last))
