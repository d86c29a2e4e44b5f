-- Any tree of the definitions of a plan has the policy in profile.
use Rattle.std.proofs.Common.{◌≡◌, refl, sym, ap, subst, ◌∙◌, ℕ, zero, suc, ◌+◌, ◌^◌, ◌<◌, ◌⊎◌, inl, inr, Bool, true, false, ◌&&◌, ◌||◌, List, [], ◌∷◌, ◌++◌, append-nil, length, map, Some, arith}
use Rattle.std.specs.Prelude.{bytes_eq, codes}
use Rattle.std.specs.List.{list_any, flat_map, slice_get, AllByRecursion}
use Rattle.std.proofs.lemmas.Bool.{cases_order}
use Rattle.std.proofs.lemmas.List.Folds.{list_any-append}
use Rattle.route_types.specs.Community.{RectParts}
use Rattle.junos_tree.specs.Forms.{condition_form, action_form}
use Rattle.junos_tree.specs.Terms.{Content}
use Rattle.junos_tree.specs.declared.item.Action.{Action}
use Rattle.junos_tree.specs.declared.item.Condition.{Condition}
use Rattle.junos_tree.specs.declared.item.JunosForm.{JunosForm}
use Rattle.junos_tree.specs.declared.item.JunosItem.{JunosItem}
use Rattle.junos_tree.specs.declared.item.StatementSort.{StatementSort}
use Rattle.junos_tree.specs.declared.item.StatementSort.TheVariants.{Community as CommunitySort, AsPath as PathSort, Policy as PolicySort}
use Rattle.junos_reader.specs.Before.{is_as, starts}
use Rattle.junos_reader.specs.Facts.{Facts, facts_of, forms_of as forms_in}
use Rattle.junos_reader.specs.Forms.{is_not_plain, is_wild}
use Rattle.junos_reader.specs.Profile.{is_defined, InProfile}
use Rattle.junos_reader.specs.Statements.{links_of}
use Rattle.junos_reader.specs.Terms.{some_goes_on, passing}
use Rattle.junos_text.specs.Layout.{term_forms, option_forms, forms_of}
use Rattle.junos_text.specs.declared.option.PolicyOption.{PolicyOption}
use Rattle.junos_text.specs.declared.option.PolicyOption.TheVariants.{AsPath, Community}
use Rattle.junos_text.specs.declared.option.PolicyTerm.{PolicyTerm}
use Rattle.junos_plans.specs.Fits.{FitsSteps}
use Rattle.junos_plans.specs.declared.step.PlannedStep.{PlannedStep}
use Rattle.junos_layout.specs.Options.{Definitions, path_name, community_name, subroutine_name, defined_from, pattern_of, numbered, policy_of, options_of}
use Rattle.junos_layout.specs.Terms.{subroutine_terms, step_terms}
use Rattle.junos_layout.specs.Uses.{NamesSet, NamesInSubroutine, NamesDefinitions, FitsSubroutine, FitsDefinitions, HasFew}
use Rattle.junos_layout.specs.Writing.{Subroutine, Writing}
use Rattle.junos_layout.proofs.Names.{same_name, names_apart, subroutine_apart, within, some_injective}
use Rattle.junos_layout.proofs.Ranked.{Falls, none_turns, none_deep, none_calls, none_any}
use Rattle.junos_layout.proofs.Walk.{Clean, past, clean_join, clean_is_sound, Calm}
use Rattle.junos_layout.proofs.DefinitionWalk.{others_start, path_clean, community_clean, policy_clean, options_join, definitions_clean, none_heads}
use Rattle.junos_layout.proofs.Calls.{AllAt, all_at, CallsLower, AreDown, down_policy, down_nothing, down_definitions, down_links, down_path, none_behind}
use Rattle.junos_layout.proofs.FromSound.{all_join, KnowsNames}
use Rattle.junos_layout.proofs.TermSound.{subroutine_sound, steps_sound}
use Rattle.junos_layout.proofs.Levels.{rank, rank_bound, rank_top, steps_lower, subroutine_lower}

or_right : (a b : Bool) → b ≡ true → (a || b) ≡ true
or_right true b e = refl
or_right false b e = e

either : (f : JunosForm → Bool) (xs ys : List JunosForm) → list_any f ys ≡ true → list_any f (xs ++ ys) ≡ true
either f xs ys e = list_any-append f xs ys ∙ or_right (list_any f xs) (list_any f ys) e

first : (f : JunosForm → Bool) (xs ys : List JunosForm) → list_any f xs ≡ true → list_any f (xs ++ ys) ≡ true
first f xs ys e = list_any-append f xs ys ∙ ap (λ (b : Bool). b || list_any f ys) e

items_are : (f : JunosForm → Bool) (items : List JunosItem) → list_any (λ i. f i.form) items ≡ list_any f (forms_in items)
items_are f [] = refl
items_are f (i ∷ is) = ap (λ (b : Bool). f i.form || b) (items_are f is)

any_all : {A : Type 0} (P : A → Type 0) → ((x : A) → P x) → (xs : List A) → AllByRecursion P xs
any_all P h [] = tt
any_all P h (x ∷ xs) = (h x, any_all P h xs)

three_all : {A : Type 0} (P Q R : A → Type 0) (xs : List A) → AllByRecursion P xs → AllByRecursion Q xs → AllByRecursion R xs → AllByRecursion (λ x. P x × (Q x × R x)) xs
three_all P Q R [] h k l = tt
three_all P Q R (x ∷ xs) h k l = ((h.0, (k.0, l.0)), three_all P Q R xs h.1 k.1 l.1)

-- ---- definitions that are there

module _ {D : Type 0} (define : ℕ → D → PolicyOption) (sort : StatementSort) (label : ℕ → List ℕ) (headed : (n : ℕ) (d : D) → list_any (is_as sort (label n)) (option_forms (define n d)) ≡ true) where
  there_in : (from : ℕ) (ds : List D) (n : ℕ) (d : D) → slice_get ds n ≡ Some d → list_any (is_as sort (label (from + n))) (forms_of (defined_from define from ds)) ≡ true
  unfolding defined_from
  there_in from [] n d there = absurd cc
  there_in from (e ∷ es) zero d there =
      let here : from + zero ≡ from = omega arith in
      ap (λ (k : ℕ). list_any (is_as sort (label k)) (option_forms (define from e) ++ forms_of (defined_from define (from + 1) es))) here
      ∙ first (is_as sort (label from)) (option_forms (define from e)) (forms_of (defined_from define (from + 1) es)) (headed from e)
  there_in from (e ∷ es) (suc n) d there =
      let further : from + suc n ≡ from + 1 + n = omega arith in
      ap (λ (k : ℕ). list_any (is_as sort (label k)) (option_forms (define from e) ++ forms_of (defined_from define (from + 1) es))) further
      ∙ either (is_as sort (label (from + 1 + n))) (option_forms (define from e)) (forms_of (defined_from define (from + 1) es)) (there_in (from + 1) es n d there)

  pub is_there : (ds : List D) (n : ℕ) (d : D) → slice_get ds n ≡ Some d → list_any (is_as sort (label n)) (forms_of (defined_from define 0 ds)) ≡ true
  is_there ds n d there = let same : n ≡ 0 + n = omega arith in ap (λ (k : ℕ). list_any (is_as sort (label k)) (forms_of (defined_from define 0 ds))) same ∙ there_in 0 ds n d there

-- ---- communities of single members

module _ (q : List ℕ) where
  abbrev IsFine : JunosForm → Type 0
  IsFine f = is_not_plain q f ≡ false

  fine_terms : (ts : List PolicyTerm) → AllByRecursion IsFine (flat_map term_forms ts)
  fine_terms [] = tt
  fine_terms (t ∷ ts) = (
    refl,
    all_join IsFine (map (condition_form false) t.conditions ++ map (action_form false) t.actions) (flat_map term_forms ts)
        (all_join IsFine (map (condition_form false) t.conditions) (map (action_form false) t.actions) (conditions t.conditions) (actions t.actions)) (fine_terms ts),
  )
    where
      conditions : (cs : List Condition) → AllByRecursion IsFine (map (condition_form false) cs)
      conditions [] = tt
      conditions (c ∷ cs) = (refl, conditions cs)

      actions : (xs : List Action) → AllByRecursion IsFine (map (action_form false) xs)
      actions [] = tt
      actions (x ∷ xs) = (refl, actions xs)

  fine_policy : (name : List ℕ) (ts : List Content) → AllByRecursion IsFine (option_forms (policy_of name ts))
  fine_policy name ts = (refl, fine_terms (numbered 1 ts))

  fine_definitions : {D : Type 0} (define : ℕ → D → PolicyOption) → ((n : ℕ) (d : D) → AllByRecursion IsFine (option_forms (define n d))) → (from : ℕ) (ds : List D)
      → AllByRecursion IsFine (forms_of (defined_from define from ds))
  unfolding defined_from
  fine_definitions define each from [] = tt
  fine_definitions define each from (d ∷ ds) = all_join IsFine (option_forms (define from d)) (forms_of (defined_from define (from + 1) ds)) (each from d) (fine_definitions define each (from + 1) ds)

and_none : (a b : Bool) → b ≡ false → (a && b) ≡ false
and_none true b e = e
and_none false b e = refl

-- ---- the definitions of a plan

module _ (name : List ℕ) where
  abbrev pub define_path : ℕ → List ℕ → PolicyOption
  define_path n text = AsPath (record { name = path_name name n; pattern = pattern_of text; text = text })

  abbrev pub define_community : ℕ → List RectParts → PolicyOption
  define_community n members = Community (record { name = community_name name n; members = members })

  abbrev pub define_subroutine : Writing → ℕ → Subroutine → PolicyOption
  define_subroutine w n s = policy_of (subroutine_name name n) (subroutine_terms w s)

  -- the community at this place has single members alone
  fine_communities : (k from : ℕ) (ds : List (List RectParts)) → from + length ds < 2 ^ 63 → k < 2 ^ 63
      → ((n : ℕ) (d : List RectParts) → slice_get ds n ≡ Some d → from + n ≡ k → list_any is_wild d ≡ false)
      → AllByRecursion (IsFine (community_name name k)) (forms_of (defined_from define_community from ds))
  unfolding defined_from
  fine_communities k from [] few small single = tt
  fine_communities k from (d ∷ ds) few small single =
      (by_order (cases_order k from), fine_communities k (from + 1) ds (omega (arith, few)) small (λ n e there at. single (suc n) e there (omega (arith, at))))
    where
      other : (k ≡ from → ⊥) → (bytes_eq (community_name name k) (community_name name from) && list_any is_wild d) ≡ false
      other differ = ap (λ (b : Bool). b && list_any is_wild d) (names_apart name (codes "-c") k from small (omega (arith, few)) differ)

      by_order : (k ≡ from) ⊎ ((k < from) ⊎ (from < k)) → (bytes_eq (community_name name k) (community_name name from) && list_any is_wild d) ≡ false
      by_order (inl same) = and_none (bytes_eq (community_name name k) (community_name name from)) (list_any is_wild d) (single zero d refl (omega (arith, same)))
      by_order (inr (inl low)) = other (λ e. omega (arith, e, low))
      by_order (inr (inr high)) = other (λ e. omega (arith, e, high))

  module _ (defs : Definitions) (w : Writing) (steps : List PlannedStep) where
    abbrev pub paths_forms : List JunosForm
    paths_forms = forms_of (defined_from define_path 0 defs.paths)

    abbrev pub communities_forms : List JunosForm
    communities_forms = forms_of (defined_from define_community 0 defs.communities)

    abbrev pub subroutines_forms : List JunosForm
    subroutines_forms = forms_of (defined_from (define_subroutine w) 0 defs.subroutines)

    abbrev pub policy_forms : List JunosForm
    policy_forms = option_forms (policy_of name (step_terms w steps))

    -- the forms of a plan, sort by sort
    abbrev pub all_forms : List JunosForm
    all_forms = paths_forms ++ (communities_forms ++ (subroutines_forms ++ policy_forms))

    pub forms_are : forms_of (options_of name defs w steps) ≡ all_forms
    forms_are =
        let last : List PolicyOption = policy_of name (step_terms w steps) ∷ [] in
        let third : List PolicyOption = defined_from (define_subroutine w) 0 defs.subroutines ++ last in
        let second : List PolicyOption = defined_from define_community 0 defs.communities ++ third in
        options_join (defined_from define_path 0 defs.paths) second
        ∙ ap (λ (fs : List JunosForm). paths_forms ++ fs) (options_join (defined_from define_community 0 defs.communities) third
        ∙ ap (λ (fs : List JunosForm). communities_forms ++ fs) (options_join (defined_from (define_subroutine w) 0 defs.subroutines) last
        ∙ ap (λ (fs : List JunosForm). subroutines_forms ++ fs) (append-nil policy_forms)))

    module _ (items : List JunosItem) (says : forms_in items ≡ all_forms) (few : HasFew defs w steps) (fit : FitsDefinitions defs) (fits : FitsSteps steps) (named : NamesDefinitions name defs w steps) where
      abbrev facts : Facts
      facts = facts_of (name ∷ []) items

      any_is : (f : JunosForm → Bool) → list_any (λ i. f i.form) items ≡ list_any f all_forms
      any_is f = items_are f items ∙ ap (λ (fs : List JunosForm). list_any f fs) says

      knows : KnowsNames facts name defs w
      knows = record {
        paths = λ text (n, there, is).
            ap (λ (q : List ℕ). facts.defined PathSort q) is
            ∙ any_is (is_as PathSort (path_name name n))
            ∙ first (is_as PathSort (path_name name n)) paths_forms (communities_forms ++ (subroutines_forms ++ policy_forms))
            (is_there define_path PathSort (path_name name) (λ m d. ap (λ (b : Bool). b || false) (same_name (path_name name m))) defs.paths n text there);
        sets = λ members (n, there, is).
            ap (λ (q : List ℕ). facts.defined CommunitySort q) is
            ∙ any_is (is_as CommunitySort (community_name name n))
            ∙ either (is_as CommunitySort (community_name name n)) paths_forms (communities_forms ++ (subroutines_forms ++ policy_forms))
            (first (is_as CommunitySort (community_name name n)) communities_forms (subroutines_forms ++ policy_forms)
            (is_there define_community CommunitySort (community_name name) (λ m d. ap (λ (b : Bool). b || false) (same_name (community_name name m))) defs.communities n members there));
        calls = λ s (n, there, is).
            ap (λ (q : List ℕ). facts.defined PolicySort q) is
            ∙ any_is (is_as PolicySort (subroutine_name name n))
            ∙ either (is_as PolicySort (subroutine_name name n)) paths_forms (communities_forms ++ (subroutines_forms ++ policy_forms))
            (either (is_as PolicySort (subroutine_name name n)) communities_forms (subroutines_forms ++ policy_forms)
            (first (is_as PolicySort (subroutine_name name n)) subroutines_forms policy_forms
            (is_there (define_subroutine w) PolicySort (subroutine_name name)
            (λ m d. ap (λ (b : Bool). b || list_any (is_as PolicySort (subroutine_name name m)) (flat_map term_forms (numbered 1 (subroutine_terms w d)))) (same_name (subroutine_name name m))) defs.subroutines n s there)));
      }

      single : (members : List RectParts) → NamesSet name defs w members → list_any is_wild members ≡ false → facts.not_plain (w.community members) ≡ false
      single members (n, there, is) plain =
          let q : List ℕ = community_name name n in
          let small : n < length defs.communities = within defs.communities n members there in
          ap (λ (p : List ℕ). facts.not_plain p) is
          ∙ any_is (is_not_plain q)
          ∙ none_any (is_not_plain q) all_forms
          (all_join (IsFine q) paths_forms (communities_forms ++ (subroutines_forms ++ policy_forms)) (fine_definitions q define_path (λ m d. (refl, tt)) 0 defs.paths)
          (all_join (IsFine q) communities_forms (subroutines_forms ++ policy_forms)
          (fine_communities n 0 defs.communities (omega (arith, few.communities)) (omega (arith, few.communities, small)) (λ m d there_too at.
          let same : m ≡ n = omega (arith, at) in
          let is_same : members ≡ d = some_injective members d (sym there ∙ ap (λ (k : ℕ). slice_get defs.communities k) (sym same) ∙ there_too) in
          subst (λ (ms : List RectParts). list_any is_wild ms ≡ false) is_same plain))
          (all_join (IsFine q) subroutines_forms policy_forms (fine_definitions q (define_subroutine w) (λ m d. fine_policy q (subroutine_name name m) (subroutine_terms w d)) 0 defs.subroutines)
          (fine_policy q name (step_terms w steps)))))

      -- ---- calls

      abbrev own_rank : List ℕ → ℕ
      own_rank = rank name defs

      subroutines_lower : AllAt (λ n s. AllByRecursion (CallsLower own_rank (subroutine_name name n)) (subroutine_terms w s)) 0 defs.subroutines
      subroutines_lower =
          all_at (λ n s. AllByRecursion (CallsLower own_rank (subroutine_name name n)) (subroutine_terms w s)) (NamesInSubroutine name defs w) 0 defs.subroutines
          (λ n s there h. subst (λ (k : ℕ). AllByRecursion (CallsLower own_rank (subroutine_name name k)) (subroutine_terms w s)) (omega arith) (subroutine_lower name defs w few.subroutines n s there h))
          named.subroutines

      all_down : AreDown own_rank all_forms
      all_down =
          down_definitions own_rank define_path (λ n d. Unit {0}) (λ n d rest h k. down_path own_rank (define_path n d) rest tt k) 0 defs.paths (communities_forms ++ (subroutines_forms ++ policy_forms))
          (all_at (λ n d. Unit {0}) (λ d. Unit {0}) 0 defs.paths (λ n d there h. tt) (any_all (λ d. Unit {0}) (λ d. tt) defs.paths))
          (down_definitions own_rank define_community (λ n d. Unit {0}) (λ n d rest h k. down_path own_rank (define_community n d) rest tt k) 0 defs.communities (subroutines_forms ++ policy_forms)
          (all_at (λ n d. Unit {0}) (λ d. Unit {0}) 0 defs.communities (λ n d there h. tt) (any_all (λ d. Unit {0}) (λ d. tt) defs.communities))
          (down_definitions own_rank (define_subroutine w) (λ n s. AllByRecursion (CallsLower own_rank (subroutine_name name n)) (subroutine_terms w s))
          (λ n s rest h k. down_policy own_rank (subroutine_name name n) (subroutine_terms w s) rest h k) 0 defs.subroutines policy_forms subroutines_lower
          (subst (AreDown own_rank) (append-nil policy_forms)
          (down_policy own_rank name (step_terms w steps) [] (steps_lower name defs w few.subroutines name 3 (rank_top name defs w few.subroutines) steps named.steps (omega arith)) (down_nothing own_rank)))))

      falls : AllByRecursion (Falls own_rank) (links_of items)
      falls = down_links own_rank items (subst (AreDown own_rank) (sym says) all_down)

      calm : Calm facts
      calm = record {
        behind = λ p. none_behind (passing some_goes_on [] (forms_in items)) name p;
        back = λ p q. none_turns own_rank (links_of items) falls p q;
        deep = λ p. none_deep own_rank 3 (links_of items) (name ∷ []) (omega arith) falls (rank_bound name defs w few.subroutines name, tt) p;
      }

      uncalled : facts.called name ≡ false
      uncalled = none_calls own_rank 3 (links_of items) (name ∷ []) (rank_bound name defs w few.subroutines) falls name (rank_top name defs w few.subroutines)

      -- ---- the walk

      abbrev behind_paths : List JunosForm
      behind_paths = past paths_forms []

      abbrev behind_communities : List JunosForm
      behind_communities = past communities_forms behind_paths

      abbrev behind_subroutines : List JunosForm
      behind_subroutines = past subroutines_forms behind_communities

      paths_sound : Clean facts [] paths_forms
      paths_sound =
          definitions_clean facts define_path PathSort (path_name name) (λ d. Unit {0})
          (λ m n d small_m small_n differ. names_apart name (codes "-a") m n small_m small_n differ)
          (λ n d before h free. path_clean facts before (record { name = path_name name n; pattern = pattern_of d; text = d }) free)
          0 defs.paths [] (omega (arith, few.paths)) (any_all (λ d. Unit {0}) (λ d. tt) defs.paths) (λ m low high. refl)

      no_community : (q : List ℕ) → list_any (starts CommunitySort q) behind_paths ≡ false
      no_community q = others_start CommunitySort q (defined_from define_path 0 defs.paths) [] (none_heads define_path CommunitySort q (λ n d. refl) 0 defs.paths)

      communities_sound : Clean facts behind_paths communities_forms
      communities_sound =
          definitions_clean facts define_community CommunitySort (community_name name) (λ d. Unit {0})
          (λ m n d small_m small_n differ. names_apart name (codes "-c") m n small_m small_n differ)
          (λ n d before h free. community_clean facts before (record { name = community_name name n; members = d }) free)
          0 defs.communities behind_paths (omega (arith, few.communities)) (any_all (λ d. Unit {0}) (λ d. tt) defs.communities) (λ m low high. no_community (community_name name m))

      no_policy : (q : List ℕ) → list_any (starts PolicySort q) behind_communities ≡ false
      no_policy q =
          others_start PolicySort q (defined_from define_community 0 defs.communities) behind_paths (none_heads define_community PolicySort q (λ n d. refl) 0 defs.communities)
          ∙ others_start PolicySort q (defined_from define_path 0 defs.paths) [] (none_heads define_path PolicySort q (λ n d. refl) 0 defs.paths)

      subroutines_sound : Clean facts behind_communities subroutines_forms
      subroutines_sound =
          definitions_clean facts (define_subroutine w) PolicySort (subroutine_name name) (λ s. FitsSubroutine s × (NamesInSubroutine name defs w s × (length (subroutine_terms w s) < 2 ^ 63)))
          (λ m n d small_m small_n differ. names_apart name (codes "-s") m n small_m small_n differ)
          (λ n s before h free. policy_clean facts before calm (subroutine_name name n) (subroutine_terms w s) h.1.1 free (subroutine_sound facts (subroutine_name name n) name defs w knows s h.0 h.1.0))
          0 defs.subroutines behind_communities (omega (arith, few.subroutines))
          (three_all FitsSubroutine (NamesInSubroutine name defs w) (λ s. length (subroutine_terms w s) < 2 ^ 63) defs.subroutines fit.subroutines named.subroutines few.terms) (λ m low high. no_policy (subroutine_name name m))

      policy_sound : Clean facts behind_subroutines policy_forms
      policy_sound =
          policy_clean facts behind_subroutines calm name (step_terms w steps) few.steps
          (others_start PolicySort name (defined_from (define_subroutine w) 0 defs.subroutines) behind_communities (none_heads (define_subroutine w) PolicySort name (λ n s. subroutine_apart name n) 0 defs.subroutines)
          ∙ no_policy name)
          (steps_sound facts name name defs w knows single uncalled steps fits named.steps)

      all_sound : Clean facts [] all_forms
      all_sound =
          clean_join facts [] paths_forms (communities_forms ++ (subroutines_forms ++ policy_forms)) paths_sound
          (clean_join facts behind_paths communities_forms (subroutines_forms ++ policy_forms) communities_sound
          (clean_join facts behind_communities subroutines_forms policy_forms subroutines_sound policy_sound))

      is_defined_there : is_defined items name ≡ true
      unfolding is_defined
      is_defined_there =
          any_is (is_as PolicySort name)
          ∙ either (is_as PolicySort name) paths_forms (communities_forms ++ (subroutines_forms ++ policy_forms))
          (either (is_as PolicySort name) communities_forms (subroutines_forms ++ policy_forms)
          (either (is_as PolicySort name) subroutines_forms policy_forms
          (ap (λ (b : Bool). b || list_any (is_as PolicySort name) (flat_map term_forms (numbered 1 (step_terms w steps)))) (same_name name))))

      in_profile : InProfile (name ∷ []) items
      in_profile = record {
        defined = ap (λ (b : Bool). b && true) is_defined_there;
        sound = clean_is_sound (name ∷ []) items (subst (Clean facts []) (sym says) all_sound);
      }

pub plan_in_profile : (name : List ℕ) (defs : Definitions) (w : Writing) (steps : List PlannedStep) (items : List JunosItem) → forms_in items ≡ forms_of (options_of name defs w steps)
    → HasFew defs w steps
    → FitsDefinitions defs
    → FitsSteps steps
    → NamesDefinitions name defs w steps
    → InProfile (name ∷ []) items
plan_in_profile name defs w steps items says few fit fits named = in_profile name defs w steps items (says ∙ forms_are name defs w steps) few fit fits named
