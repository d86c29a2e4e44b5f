-- Definitions one after another have no fault where each is sound behind those that start before it.
use Rattle.std.proofs.Common.{◌≡◌, refl, sym, ap, ◌∙◌, ℕ, ◌+◌, ◌^◌, ◌<◌, ◌≤◌, Bool, true, false, ◌&&◌, ◌||◌, not, List, [], ◌∷◌, ◌++◌, append_assoc, length, map, arith}
use Rattle.std.specs.List.{list_any, flat_map, AllByRecursion}
use Rattle.junos_tree.specs.Forms.{condition_form, action_form}
use Rattle.junos_tree.specs.Sorts.{is_inner}
use Rattle.junos_tree.specs.Terms.{Content}
use Rattle.junos_tree.specs.declared.item.Action.{Action}
use Rattle.junos_tree.specs.declared.item.CommunityDefinition.{CommunityDefinition}
use Rattle.junos_tree.specs.declared.item.Condition.{Condition}
use Rattle.junos_tree.specs.declared.item.JunosForm.{JunosForm}
use Rattle.junos_tree.specs.declared.item.JunosForm.TheVariants.{AsPath as PathForm, Community as CommunityForm, Policy as PolicyForm}
use Rattle.junos_tree.specs.declared.item.PathDefinition.{PathDefinition}
use Rattle.junos_tree.specs.declared.item.StatementSort.{StatementSort}
use Rattle.junos_tree.specs.declared.item.StatementSort.TheVariants.{Community as CommunitySort, AsPath as PathSort, Policy as PolicySort}
use Rattle.junos_reader.specs.Before.{is_as, starts, definition_before, has_term}
use Rattle.junos_reader.specs.Facts.{Facts}
use Rattle.junos_reader.specs.Profile.{policy_name}
use Rattle.junos_reader.specs.Terms.{goes_on_before}
use Rattle.junos_tree.specs.Terms.{term_before}
use Rattle.junos_text.specs.Layout.{term_forms, option_forms, forms_of}
use Rattle.junos_text.specs.declared.option.PolicyOption.{PolicyOption}
use Rattle.junos_text.specs.declared.option.PolicyOption.TheVariants.{AsPath, Community, Policy}
use Rattle.junos_text.specs.declared.option.PolicyTerm.{PolicyTerm}
use Rattle.junos_layout.specs.Options.{defined_from, policy_of}
use Rattle.junos_layout.proofs.Walk.{Sound, Clean, past, past_join, clean_join, Between, Calm, passes_none}
use Rattle.junos_layout.proofs.TermWalk.{SoundTerm, terms_clean}
use Rattle.policy_text.specs.declared.fault.Cause.TheVariants.{DefinedTwice, Cycle}

-- ---- what starts

-- forms that start no definition
abbrev pub AreInner : List JunosForm → Type 0
AreInner fs = AllByRecursion (λ f. is_inner f ≡ true) fs

inner_join : (fs gs : List JunosForm) → AreInner fs → AreInner gs → AreInner (fs ++ gs)
inner_join [] gs h k = k
inner_join (f ∷ fs) gs h k = (h.0, inner_join fs gs h.1 k)

inner_conditions : (cs : List Condition) → AreInner (map (condition_form false) cs)
inner_conditions [] = tt
inner_conditions (c ∷ cs) = (refl, inner_conditions cs)

inner_actions : (xs : List Action) → AreInner (map (action_form false) xs)
inner_actions [] = tt
inner_actions (x ∷ xs) = (refl, inner_actions xs)

pub inner_terms : (ts : List PolicyTerm) → AreInner (flat_map term_forms ts)
inner_terms [] = tt
inner_terms (t ∷ ts) = (
  refl,
  inner_join (map (condition_form false) t.conditions ++ map (action_form false) t.actions) (flat_map term_forms ts)
      (inner_join (map (condition_form false) t.conditions) (map (action_form false) t.actions) (inner_conditions t.conditions) (inner_actions t.actions)) (inner_terms ts),
)

module _ (sort : StatementSort) (q : List ℕ) where
  abbrev started : List JunosForm → Bool
  started before = list_any (starts sort q) before

  -- the definition is of this sort and name
  abbrev pub heads : PolicyOption → Bool
  heads (AsPath p) = starts sort q (PathForm p)
  heads (Community c) = starts sort q (CommunityForm c)
  heads (Policy p) = starts sort q (PolicyForm p.name)

  inner_start : (fs before : List JunosForm) → AreInner fs → started (past fs before) ≡ started before
  unfolding past
  inner_start [] before h = refl
  inner_start (f ∷ fs) before h = inner_start fs (f ∷ before) h.1 ∙ ap (λ (b : Bool). (not b && is_as sort q f) || started before) h.0

  option_starts : (o : PolicyOption) (before : List JunosForm) → started (past (option_forms o) before) ≡ (heads o || started before)
  unfolding past
  option_starts (AsPath p) before = refl
  option_starts (Community c) before = refl
  option_starts (Policy p) before = inner_start (flat_map term_forms p.terms) (PolicyForm p.name ∷ before) (inner_terms p.terms)

  past_one : (o : PolicyOption) (os : List PolicyOption) (before : List JunosForm) → started (past (forms_of (o ∷ os)) before) ≡ started (past (forms_of os) (past (option_forms o) before))
  past_one o os before = ap started (past_join (option_forms o) (forms_of os) before)

  -- definitions of which none is of this sort and name
  pub others_start : (os : List PolicyOption) (before : List JunosForm) → AllByRecursion (λ o. heads o ≡ false) os → started (past (forms_of os) before) ≡ started before
  unfolding past
  others_start [] before h = refl
  others_start (o ∷ os) before h =
      past_one o os before
      ∙ others_start os (past (option_forms o) before) h.1
      ∙ option_starts o before
      ∙ ap (λ (b : Bool). b || started before) h.0

-- ---- single definitions

module _ (facts : Facts) (before : List JunosForm) where
  sound_path : (p : PathDefinition) → list_any (starts PathSort p.name) before ≡ false → Sound facts before (PathForm p)
  sound_path p h DefinedTwice = h
  sound_path p h Cycle = passes_none (policy_name (definition_before before))
  sound_path p h _ = refl

  sound_community : (c : CommunityDefinition) → list_any (starts CommunitySort c.name) before ≡ false → Sound facts before (CommunityForm c)
  sound_community c h DefinedTwice = h
  sound_community c h Cycle = passes_none (policy_name (definition_before before))
  sound_community c h _ = refl

  sound_policy : (name : List ℕ) → list_any (starts PolicySort name) before ≡ false → Sound facts before (PolicyForm name)
  sound_policy name h DefinedTwice = h
  sound_policy name h Cycle = passes_none (policy_name (definition_before before))
  sound_policy name h _ = refl

  pub path_clean : (p : PathDefinition) → list_any (starts PathSort p.name) before ≡ false → Clean facts before (option_forms (AsPath p))
  unfolding Clean
  path_clean p h = (sound_path p h, tt)

  pub community_clean : (c : CommunityDefinition) → list_any (starts CommunitySort c.name) before ≡ false → Clean facts before (option_forms (Community c))
  unfolding Clean
  community_clean c h = (sound_community c h, tt)

  begins_policy : (name : List ℕ) → Between name 1 (PolicyForm name ∷ before)
  unfolding definition_before goes_on_before has_term term_before
  begins_policy name = record { definition = refl; goes_on = refl; free = λ m low high. refl }

  pub policy_clean : Calm facts → (name : List ℕ) (ts : List Content) → length ts < 2 ^ 63 → list_any (starts PolicySort name) before ≡ false → AllByRecursion (SoundTerm facts name) ts
      → Clean facts before (option_forms (policy_of name ts))
  unfolding Clean
  policy_clean calm name ts few h s = (sound_policy name h, terms_clean facts calm name 1 ts (PolicyForm name ∷ before) (omega (arith, few)) (begins_policy name) s)

-- ---- definitions of a sort, each under its own name

pub options_join : (os ps : List PolicyOption) → forms_of (os ++ ps) ≡ forms_of os ++ forms_of ps
options_join [] ps = refl
options_join (o ∷ os) ps = ap (λ (fs : List JunosForm). option_forms o ++ fs) (options_join os ps) ∙ sym (append_assoc (option_forms o) (forms_of os) (forms_of ps))

module _ {D : Type 0} (facts : Facts) (define : ℕ → D → PolicyOption) (sort : StatementSort) (label : ℕ → List ℕ) (P : D → Type 0)
    (own : (m n : ℕ) (d : D) → m < 2 ^ 63 → n < 2 ^ 63 → (m ≡ n → ⊥) → heads sort (label m) (define n d) ≡ false)
    (each : (n : ℕ) (d : D) (before : List JunosForm) → P d → list_any (starts sort (label n)) before ≡ false → Clean facts before (option_forms (define n d))) where
  pub definitions_clean : (from : ℕ) (ds : List D) (before : List JunosForm) → from + length ds < 2 ^ 63 → AllByRecursion P ds
      → ((m : ℕ) → from ≤ m → m < 2 ^ 63 → list_any (starts sort (label m)) before ≡ false)
      → Clean facts before (forms_of (defined_from define from ds))
  unfolding defined_from Clean
  definitions_clean from [] before few h free = tt
  definitions_clean from (d ∷ ds) before few h free =
      let small : from < 2 ^ 63 = omega (arith, few) in
      clean_join facts before (option_forms (define from d)) (forms_of (defined_from define (from + 1) ds))
      (each from d before h.0 (free from (omega arith) small))
      (definitions_clean (from + 1) ds (past (option_forms (define from d)) before) (omega (arith, few)) h.1 (λ m low high.
      option_starts sort (label m) (define from d) before
      ∙ ap (λ (b : Bool). b || list_any (starts sort (label m)) before) (own m from d high small (λ e. omega (arith, e, low)))
      ∙ free m (omega (arith, low)) high))

-- definitions of which none is headed so
pub none_heads : {D : Type 0} (define : ℕ → D → PolicyOption) (sort : StatementSort) (q : List ℕ) → ((n : ℕ) (d : D) → heads sort q (define n d) ≡ false) → (from : ℕ) (ds : List D)
    → AllByRecursion (λ o. heads sort q o ≡ false) (defined_from define from ds)
unfolding defined_from
none_heads define sort q others from [] = tt
none_heads define sort q others from (d ∷ ds) = (others from d, none_heads define sort q others (from + 1) ds)
