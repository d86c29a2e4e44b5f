-- Each name of a plan leads to what is planned.
use Rattle.std.proofs.Common.{◌≡◌, refl, sym, ap, subst, ◌∙◌, ℕ, zero, suc, ◌+◌, false, List, [], ◌∷◌, ◌++◌, append-nil, map, Option, Some, None, arith}
use Rattle.std.specs.Prelude.{codes}
use Rattle.std.specs.List.{flat_map, slice_get, AllByRecursion}
use Rattle.aspath_text.specs.JunosRead.{junos_pattern_in}
use Rattle.path_patterns.specs.declared.items.TokenPattern.{TokenPattern}
use Rattle.policy_text.specs.Names.{is_named}
use Rattle.route_types.specs.Community.{RectParts}
use Rattle.junos_tree.specs.Forms.{condition_form, action_form}
use Rattle.junos_tree.specs.Terms.{Content, nothing, own_forms}
use Rattle.junos_tree.specs.declared.item.Action.{Action}
use Rattle.junos_tree.specs.declared.item.Condition.{Condition}
use Rattle.junos_tree.specs.declared.item.JunosForm.{JunosForm}
use Rattle.junos_tree.specs.declared.item.JunosForm.TheVariants.{AsPath as PathForm, Community as CommunityForm, Policy as PolicyForm, Term as TermHeader}
use Rattle.junos_meaning.specs.Sets.{Naming, community_named, path_named, policy_named, defined_at, behind, members_first, pattern_first, contents_of, community_members, path_pattern, policy_terms}
use Rattle.junos_text.specs.Layout.{term_forms, option_forms, forms_of}
use Rattle.junos_text.specs.declared.option.PolicyOption.{PolicyOption}
use Rattle.junos_text.specs.declared.option.PolicyTerm.{PolicyTerm}
use Rattle.junos_plans.specs.Fits.{FitsText}
use Rattle.junos_plans.specs.declared.step.PlannedStep.{PlannedStep}
use Rattle.junos_layout.specs.Options.{Definitions, path_name, community_name, subroutine_name, defined_from, pattern_of, numbered}
use Rattle.junos_layout.specs.Terms.{subroutine_terms, step_terms}
use Rattle.junos_layout.specs.Uses.{NamesPath, NamesSet, NamesCall, FitsDefinitions, HasFew}
use Rattle.junos_layout.specs.Writing.{Subroutine, Writing}
use Rattle.junos_layout.proofs.DefinitionWalk.{inner_terms}
use Rattle.junos_layout.proofs.FromSound.{all_join}
use Rattle.junos_layout.proofs.InProfile.{define_path, define_community, define_subroutine, paths_forms, communities_forms, subroutines_forms, policy_forms, all_forms}
use Rattle.junos_layout.proofs.Lookups.{contents_are, own_all, Starts, IsOther, past_others, at_definition, found_at}
use Rattle.junos_layout.proofs.Names.{same_name, names_apart, subroutine_apart, some_injective}

-- each of a list that stands at a place
pub at_place : {A : Type 0} (P : A → Type 0) (xs : List A) (n : ℕ) (x : A) → slice_get xs n ≡ Some x → AllByRecursion P xs → P x
at_place P [] n x there h = absurd cc
at_place P (y ∷ ys) zero x there h = subst P (some_injective y x there) h.0
at_place P (y ∷ ys) (suc n) x there h = at_place P ys n x there h.1

-- ---- forms that are named otherwise

module _ (named : Naming) (q : List ℕ) (term : (name : List ℕ) → named (TermHeader name) ≡ None) (condition : (c : Condition) → named (condition_form false c) ≡ None) (action : (a : Action) → named (action_form false a) ≡ None) where
  other_conditions : (cs : List Condition) → AllByRecursion (IsOther named q) (map (condition_form false) cs)
  other_conditions [] = tt
  other_conditions (c ∷ cs) = (ap (is_named q) (condition c), other_conditions cs)

  other_actions : (xs : List Action) → AllByRecursion (IsOther named q) (map (action_form false) xs)
  other_actions [] = tt
  other_actions (x ∷ xs) = (ap (is_named q) (action x), other_actions xs)

  other_terms : (ts : List PolicyTerm) → AllByRecursion (IsOther named q) (flat_map term_forms ts)
  other_terms [] = tt
  other_terms (t ∷ ts) = (
    ap (is_named q) (term t.name),
    all_join (IsOther named q) (map (condition_form false) t.conditions ++ map (action_form false) t.actions) (flat_map term_forms ts)
        (all_join (IsOther named q) (map (condition_form false) t.conditions) (map (action_form false) t.actions) (other_conditions t.conditions) (other_actions t.actions)) (other_terms ts),
  )

other_definitions : {D : Type 0} (named : Naming) (q : List ℕ) (define : ℕ → D → PolicyOption) → ((n : ℕ) (d : D) → AllByRecursion (IsOther named q) (option_forms (define n d))) → (from : ℕ) (ds : List D)
    → AllByRecursion (IsOther named q) (forms_of (defined_from define from ds))
unfolding defined_from
other_definitions named q define each from [] = tt
other_definitions named q define each from (d ∷ ds) = all_join (IsOther named q) (option_forms (define from d)) (forms_of (defined_from define (from + 1) ds)) (each from d) (other_definitions named q define each (from + 1) ds)

-- ---- the names of a plan

module _ (name : List ℕ) (defs : Definitions) (w : Writing) (steps : List PlannedStep) (few : HasFew defs w steps) where
  abbrev pub all : List JunosForm
  all = all_forms name defs w steps

  abbrev communities_on : List JunosForm
  communities_on = communities_forms name defs w steps ++ (subroutines_forms name defs w steps ++ policy_forms name defs w steps)

  abbrev subroutines_on : List JunosForm
  subroutines_on = subroutines_forms name defs w steps ++ policy_forms name defs w steps

  subs_on : (ss : List Subroutine) → Starts (forms_of (defined_from (define_subroutine name w) 0 ss) ++ policy_forms name defs w steps)
  unfolding defined_from
  subs_on [] = refl
  subs_on (s ∷ ss) = refl

  starts_on : (sets : List (List RectParts)) → Starts (forms_of (defined_from (define_community name) 0 sets) ++ subroutines_on)
  unfolding defined_from
  starts_on [] = subs_on defs.subroutines
  starts_on (s ∷ ss) = refl

  -- a text that is named is found as its pattern
  pub pattern_found : FitsDefinitions defs → (text : List ℕ) → NamesPath name defs w text → path_pattern all (w.path text) ≡ junos_pattern_in text
  pattern_found fit text (n, there, is) =
      let found = found_at path_named (define_path name) (λ m d. PathForm (record { name = path_name name m; pattern = pattern_of d; text = d })) (λ m d. []) (path_name name)
      (λ m d. refl) (λ m d. refl) (λ m d q. tt) (λ m d. refl) (names_apart name (codes "-a")) 0 defs.paths communities_on n text there (omega (arith, few.paths)) (starts_on defs.communities) in
      ap (λ (q : List ℕ). path_pattern all q) (is ∙ ap (path_name name) (omega arith))
      ∙ ap pattern_first found.are
      ∙ spelled text (at_place FitsText defs.paths n text there fit.paths)
    where
      spelled : (t : List ℕ) → FitsText t → Some (pattern_of t) ≡ junos_pattern_in t
      spelled t (p, e) = ap (λ (o : Option TokenPattern). Some (elim o [ None ↦ record { branches = [] } | Some u ↦ u ])) e ∙ sym e

  past_paths : (named : Naming) (q : List ℕ) → ((p : _) → named (PathForm p) ≡ None) → defined_at named q all ≡ defined_at named q communities_on
  past_paths named q none = past_others named q (paths_forms name defs w steps) communities_on (other_definitions named q (define_path name) (λ m d. (ap (is_named q) (none _), tt)) 0 defs.paths)

  past_communities : (named : Naming) (q : List ℕ) → ((c : _) → named (CommunityForm c) ≡ None) → defined_at named q communities_on ≡ defined_at named q subroutines_on
  past_communities named q none = past_others named q (communities_forms name defs w steps) subroutines_on (other_definitions named q (define_community name) (λ m d. (ap (is_named q) (none _), tt)) 0 defs.communities)

  -- members that are named are found
  pub members_found : (members : List RectParts) → NamesSet name defs w members → community_members all (w.community members) ≡ members
  members_found members (n, there, is) =
      let found = found_at community_named (define_community name) (λ m d. CommunityForm (record { name = community_name name m; members = d })) (λ m d. []) (community_name name)
      (λ m d. refl) (λ m d. refl) (λ m d q. tt) (λ m d. refl) (names_apart name (codes "-c")) 0 defs.communities subroutines_on n members there (omega (arith, few.communities)) (subs_on defs.subroutines) in
      ap (λ (q : List ℕ). community_members all q) (is ∙ ap (community_name name) (omega arith))
      ∙ ap members_first (past_paths community_named (community_name name (0 + n)) (λ p. refl) ∙ found.are)

  terms_under : (ts : List Content) (rest fs : List JunosForm) (p : List ℕ) → fs ≡ PolicyForm p ∷ (flat_map term_forms (numbered 1 ts) ++ rest) → Starts rest
      → contents_of (own_forms (behind fs)) ≡ ts ++ nothing ∷ []
  terms_under ts rest fs p are starts =
      ap (λ (gs : List JunosForm). contents_of (own_forms (behind gs))) are
      ∙ ap contents_of (own_all (flat_map term_forms (numbered 1 ts)) rest (inner_terms (numbered 1 ts)) starts)
      ∙ contents_are ts

  -- a subroutine that is called is found
  pub subroutine_found : (s : Subroutine) → NamesCall name defs w s → policy_terms all (w.subroutine s) ≡ subroutine_terms w s ++ nothing ∷ []
  subroutine_found s (n, there, is) =
      let found = found_at policy_named (define_subroutine name w) (λ m d. PolicyForm (subroutine_name name m)) (λ m d. flat_map term_forms (numbered 1 (subroutine_terms w d))) (subroutine_name name)
      (λ m d. refl) (λ m d. refl) (λ m d q. other_terms policy_named q (λ t. refl) (λ c. refl) (λ a. refl) (numbered 1 (subroutine_terms w d))) (λ m d. refl) (names_apart name (codes "-s"))
      0 defs.subroutines (policy_forms name defs w steps) n s there (omega (arith, few.subroutines)) refl in
      ap (λ (q : List ℕ). policy_terms all q) (is ∙ ap (subroutine_name name) (omega arith))
      ∙ terms_under (subroutine_terms w s) found.behind_it (defined_at policy_named (subroutine_name name (0 + n)) all) (subroutine_name name (0 + n))
      (past_paths policy_named (subroutine_name name (0 + n)) (λ p. refl) ∙ past_communities policy_named (subroutine_name name (0 + n)) (λ c. refl) ∙ found.are) found.starts

  -- the policy is found
  pub policy_found : policy_terms all name ≡ step_terms w steps ++ nothing ∷ []
  policy_found =
      let here : List JunosForm = policy_forms name defs w steps in
      terms_under (step_terms w steps) [] (defined_at policy_named name all) name
      (past_paths policy_named name (λ p. refl)
      ∙ past_communities policy_named name (λ c. refl)
      ∙ past_others policy_named name (subroutines_forms name defs w steps) here
      (other_definitions policy_named name (define_subroutine name w) (λ m d. (subroutine_apart name m, other_terms policy_named name (λ t. refl) (λ c. refl) (λ a. refl) (numbered 1 (subroutine_terms w d)))) 0 defs.subroutines)
      ∙ at_definition policy_named name (PolicyForm name) (flat_map term_forms (numbered 1 (step_terms w steps))) (same_name name)
      ∙ ap (λ (fs : List JunosForm). PolicyForm name ∷ fs) (sym (append-nil (flat_map term_forms (numbered 1 (step_terms w steps))))))
      tt
