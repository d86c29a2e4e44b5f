-- The terms of steps and of subroutines that fit may be written, and so may the definitions of a plan.
use Rattle.std.proofs.Common.{refl, ℕ, ◌+◌, ◌^◌, ◌<◌, Bool, true, false, List, [], ◌∷◌, ◌++◌, length, map, arith}
use Rattle.std.specs.List.{flat_map, AllByRecursion}
use Rattle.path_patterns.proofs.Lists.{all_append, all_pairs}
use Rattle.junos_tree.specs.Terms.{Content}
use Rattle.junos_tree.specs.declared.item.Condition.{Condition}
use Rattle.junos_tree.specs.declared.item.Condition.TheVariants.{Policy as CallLine}
use Rattle.junos_text.specs.Written.{FitsName, FitsCondition as FitsWrittenCondition, FitsAction, FitsTerm, FitsOption, FitsMember as FitsWrittenMember, MayBeWritten}
use Rattle.junos_text.specs.declared.option.PolicyOption.{PolicyOption}
use Rattle.junos_plans.specs.Fits.{SomeFit, FitsText, FitsMember, FitsTest, FitsLiteral, FitsEntry, FitsStep, FitsSteps}
use Rattle.junos_plans.specs.declared.condition.PlannedEntry.{PlannedEntry}
use Rattle.junos_plans.specs.declared.condition.PlannedTest.{PlannedTest}
use Rattle.junos_plans.specs.declared.step.PlannedLiteral.{PlannedLiteral}
use Rattle.junos_plans.specs.declared.step.PlannedStep.{PlannedStep}
use Rattle.junos_layout.specs.Actions.{actions_of}
use Rattle.junos_layout.specs.Options.{Definitions, path_name, subroutine_name, defined_from, numbered, policy_of, options_of}
use Rattle.junos_layout.specs.Terms.{condition_lines, ending, ends_by, test_lines, from_of, list_terms, literal_term, subroutine_terms, behind_from, step_terms}
use Rattle.junos_layout.specs.Uses.{HasFew, FitsDefinitions, FitsSubroutine, NamesCondition, NamesCall, NamesInSubroutine, NamesInStep, NamesDefinitions, test_conditions, test_calls, literal_conditions, literal_calls}
use Rattle.junos_layout.specs.Writing.{Subroutine, OfList, Unless, AllOf, Writing}
use Rattle.junos_layout.proofs.InProfile.{define_path, define_community, define_subroutine}
use Rattle.junos_writable.proofs.ConditionLaws.{all_front, lines_fit, call_named, test_fits, from_fits, actions_fit}
use Rattle.junos_writable.proofs.NameLaws.{own_fits, term_fits}
use Rattle.junos_writable.proofs.PathLaws.{path_fits}
use Rattle.junos_writable.proofs.ValueLaws.{some_each, member_written}

-- what a term asks and does may be written
pub record FitsContent (t : Content) : Type 0 where
  pub conditions : AllByRecursion FitsWrittenCondition t.conditions
  pub actions : AllByRecursion FitsAction t.actions

-- numbered terms
terms_fit : (n : ℕ) (ts : List Content) → n + length ts < 2 ^ 64 → AllByRecursion FitsContent ts → AllByRecursion FitsTerm (numbered n ts)
unfolding numbered
terms_fit n [] few h = tt
terms_fit n (t ∷ ts) few h = (record { name = term_fits n (omega (arith, few)); conditions = h.0.conditions; actions = h.0.actions }, terms_fit (n + 1) ts (omega (arith, few)) h.1)

-- a policy of these terms
policy_fits : (name : List ℕ) (ts : List Content) → FitsName name → length ts < 2 ^ 63 → AllByRecursion FitsContent ts → FitsOption (policy_of name ts)
policy_fits name ts named few h = (named, terms_fit 1 ts (omega (arith, few)) h)

-- a term that only accepts or rejects
end_fits : (from : List Condition) (accept : Bool) → AllByRecursion FitsWrittenCondition from → FitsContent (ends_by from accept)
end_fits from true h = record { conditions = h; actions = (tt, tt) }
end_fits from false h = record { conditions = h; actions = (tt, tt) }

last_fits : (accept : Bool) → FitsContent (ends_by [] accept)
last_fits accept = end_fits [] accept tt

ending_fits : (accept : Bool) → AllByRecursion FitsAction (ending accept ∷ [])
ending_fits true = (tt, tt)
ending_fits false = (tt, tt)

module _ (name : List ℕ) (defs : Definitions) (w : Writing) (steps : List PlannedStep) (fits_name : FitsName name) (few : HasFew defs w steps) where
  -- ---- subroutines

  entries_fit : (es : List PlannedEntry) → AllByRecursion FitsEntry es → AllByRecursion (NamesCondition name defs w) (map (λ e. e.condition) es) → AllByRecursion FitsContent (list_terms w es)
  entries_fit [] h named = (last_fits false, tt)
  entries_fit (e ∷ es) h named =
      (end_fits (condition_lines w e.condition) e.permit (lines_fit name defs w steps fits_name few e.condition h.0 named.0), entries_fit es h.1 named.1)

  test_ends : (test : PlannedTest) → FitsTest test → AllByRecursion (NamesCondition name defs w) (test_conditions test) → AllByRecursion (NamesCall name defs w) (test_calls test)
      → FitsContent (ends_by (test_lines w test) false)
  test_ends test h named called = end_fits (test_lines w test) false (test_fits name defs w steps fits_name few test h named called)

  literal_fits : (test : PlannedTest) (wanted : Bool) → FitsTest test → AllByRecursion (NamesCondition name defs w) (literal_conditions (record { test = test; wanted = wanted }))
      → AllByRecursion (NamesCall name defs w) (literal_calls (record { test = test; wanted = wanted })) → FitsContent (literal_term w (record { test = test; wanted = wanted }))
  literal_fits test true h named called =
      end_fits (CallLine (w.subroutine (Unless test) ∷ []) ∷ []) false ((omega arith, (call_named name defs w steps fits_name few (Unless test) called.0, tt)), tt)
  literal_fits test false h named called = test_ends test h named called

  literals_fit : (ls : List PlannedLiteral) → AllByRecursion FitsLiteral ls → AllByRecursion (NamesCondition name defs w) (flat_map literal_conditions ls)
      → AllByRecursion (NamesCall name defs w) (flat_map literal_calls ls) → AllByRecursion FitsContent (map (literal_term w) ls ++ ends_by [] true ∷ [])
  literals_fit [] h named called = (last_fits true, tt)
  literals_fit (l ∷ ls) h named called =
      let conditions = all_front (NamesCondition name defs w) (literal_conditions l) (flat_map literal_conditions ls) named in
      let calls = all_front (NamesCall name defs w) (literal_calls l) (flat_map literal_calls ls) called in
      (literal_fits l.test l.wanted h.0 conditions.0 calls.0, literals_fit ls h.1 conditions.1 calls.1)

  subroutine_fits : (s : Subroutine) → FitsSubroutine s → NamesInSubroutine name defs w s → AllByRecursion FitsContent (subroutine_terms w s)
  subroutine_fits (OfList l) h named = entries_fit l.entries h named.conditions
  subroutine_fits (Unless test) h named = (test_ends test h named.conditions named.calls, (last_fits true, tt))
  subroutine_fits (AllOf ls) h named = literals_fit ls h named.conditions named.calls

  -- ---- steps

  step_fits : (s : PlannedStep) → FitsStep s → NamesInStep name defs w s → FitsContent (record { conditions = from_of w s.guard; actions = actions_of w s.changes ++ ending s.accept ∷ [] })
  step_fits s h named = record {
    conditions = from_fits name defs w steps fits_name few s.guard h.guard.conditions h.guard.literals named.conditions named.calls;
    actions =
        all_append FitsAction (actions_of w s.changes) (ending s.accept ∷ []) (actions_fit name defs w steps fits_name few s.changes h.changes named.changes) (ending_fits s.accept);
  }

  behind_fits : (from : List Condition) (rest : List Content) → AllByRecursion FitsContent rest → AllByRecursion FitsContent (behind_from from rest)
  behind_fits [] rest h = tt
  behind_fits (c ∷ cs) rest h = h

  steps_fit : (ss : List PlannedStep) → FitsSteps ss → AllByRecursion (NamesInStep name defs w) ss → AllByRecursion FitsContent (step_terms w ss)
  unfolding step_terms
  steps_fit [] h named = (last_fits false, tt)
  steps_fit (s ∷ ss) h named = (step_fits s h.0 named.0, behind_fits (from_of w s.guard) (step_terms w ss) (steps_fit ss h.1 named.1))

-- ---- definitions

definitions_fit : {D : Type 0} (define : ℕ → D → PolicyOption) (P : D → Type 0) → ((n : ℕ) (d : D) → n < 2 ^ 63 → P d → FitsOption (define n d))
    → (from : ℕ) (ds : List D) → from + length ds < 2 ^ 63 → AllByRecursion P ds → MayBeWritten (defined_from define from ds)
unfolding defined_from
definitions_fit define P each from [] few h = tt
definitions_fit define P each from (d ∷ ds) few h = (each from d (omega (arith, few)) h.0, definitions_fit define P each (from + 1) ds (omega (arith, few)) h.1)

-- the definitions of a plan
pub plan_writable : (name : List ℕ) (defs : Definitions) (w : Writing) (steps : List PlannedStep) → FitsName name
    → HasFew defs w steps
    → FitsDefinitions defs
    → FitsSteps steps
    → NamesDefinitions name defs w steps
    → MayBeWritten (options_of name defs w steps)
plan_writable name defs w steps heads few fits fit named =
    let last : MayBeWritten (policy_of name (step_terms w steps) ∷ []) =
    (policy_fits name (step_terms w steps) heads few.steps (steps_fit name defs w steps heads few steps fit named.steps), tt) in
    let third : MayBeWritten (defined_from (define_subroutine name w) 0 defs.subroutines) =
    definitions_fit (define_subroutine name w) (λ s. (FitsSubroutine s × NamesInSubroutine name defs w s) × (length (subroutine_terms w s) < 2 ^ 63))
    (λ n s small h. policy_fits (subroutine_name name n) (subroutine_terms w s) (own_fits name 115 heads refl refl refl n small) h.1
    (subroutine_fits name defs w steps heads few s h.0.0 h.0.1))
    0 defs.subroutines (omega (arith, few.subroutines))
    (all_pairs (λ s. FitsSubroutine s × NamesInSubroutine name defs w s) (λ s. length (subroutine_terms w s) < 2 ^ 63) defs.subroutines
    (all_pairs FitsSubroutine (NamesInSubroutine name defs w) defs.subroutines fits.subroutines named.subroutines) few.terms) in
    let second : MayBeWritten (defined_from (define_community name) 0 defs.communities) =
    definitions_fit (define_community name) (SomeFit FitsMember)
    (λ n members small h. record { name = own_fits name 99 heads refl refl refl n small; members = some_each FitsMember FitsWrittenMember member_written members h })
    0 defs.communities (omega (arith, few.communities)) fits.communities in
    let first : MayBeWritten (defined_from (define_path name) 0 defs.paths) =
    definitions_fit (define_path name) FitsText
    (λ n text small h. path_fits (path_name name n) text (own_fits name 97 heads refl refl refl n small) h)
    0 defs.paths (omega (arith, few.paths)) fits.paths in
    all_append FitsOption (defined_from (define_path name) 0 defs.paths) _ first
    (all_append FitsOption (defined_from (define_community name) 0 defs.communities) _ second
    (all_append FitsOption (defined_from (define_subroutine name w) 0 defs.subroutines) (policy_of name (step_terms w steps) ∷ []) third last))
