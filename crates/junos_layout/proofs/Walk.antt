-- Forms without a fault, one after another, and what stands before a form in its term and its policy.
use Rattle.std.proofs.Common.{◌≡◌, refl, ap, ◌∙◌, ℕ, ◌+◌, ◌^◌, ◌<◌, ◌≤◌, Bool, true, false, ◌&&◌, ◌||◌, not, List, [], ◌∷◌, ◌++◌, Option, Some, None, cond, arith}
use Rattle.std.specs.Prelude.{nat_le, nat_lt}
use Rattle.std.specs.List.{list_any, find}
use Rattle.policy_text.specs.Causes.{causes, first_cause, first_fault_from}
use Rattle.policy_text.specs.declared.fault.Cause.{Cause}
use Rattle.policy_text.specs.declared.fault.Cause.TheVariants.{DefinedTwice, Undefined, SameKindTwice, NotPlain, MixedPrefixTests, SamePrefixTwice, PathTestAfterPrepend, SubroutineChanges, NextPolicyInSubroutine, Cycle, TooDeep}
use Rattle.junos_tree.specs.Forms.{condition_form, action_form}
use Rattle.junos_tree.specs.Terms.{term_before}
use Rattle.junos_tree.specs.declared.item.Action.{Action}
use Rattle.junos_tree.specs.declared.item.Condition.{Condition}
use Rattle.junos_tree.specs.declared.item.JunosForm.{JunosForm}
use Rattle.junos_tree.specs.declared.item.JunosForm.TheVariants.{Term as TermHeader}
use Rattle.junos_tree.specs.declared.item.JunosItem.{JunosItem}
use Rattle.junos_tree.specs.declared.item.StatementSort.{StatementSort}
use Rattle.junos_tree.specs.declared.item.StatementSort.TheVariants.{Policy as PolicySort}
use Rattle.junos_reader.specs.Before.{Definition, before_of, definition_before, has_term}
use Rattle.junos_reader.specs.Facts.{Facts, facts_of, forms_of}
use Rattle.junos_reader.specs.Forms.{acts, ends, prepends, kind_of_condition, kind_of_action, kind_of, is_kind, filter_of_condition, filter_of, is_prefix, set_or_added}
use Rattle.junos_reader.specs.Profile.{passes, has_cause, is_reached, rules_of, span_of, first_fault, exactly_one, policy_name}
use Rattle.junos_reader.specs.Statements.{named_by_condition, named_by_action, called_by_condition, is_path_condition, is_calling_condition}
use Rattle.junos_reader.specs.Terms.{goes_on_before, named_goes_on, goes_on}
use Rattle.junos_reader.specs.Forms.{changes as changes_route, leaves}
use Rattle.junos_layout.proofs.Names.{term_name, terms_apart}

-- ---- forms, one after another

-- no cause holds of the form
abbrev pub Sound : Facts → List JunosForm → JunosForm → Type 0
Sound facts before f = (cause : Cause) → has_cause facts (before_of before) f cause ≡ false

unfoldable pub Clean : Facts → List JunosForm → List JunosForm → Type 0
Clean facts before [] = Unit {0}
Clean facts before (f ∷ fs) = Sound facts before f × Clean facts (f ∷ before) fs

-- forms that have been passed, the nearest first
unfoldable pub past : List JunosForm → List JunosForm → List JunosForm
past [] before = before
past (f ∷ fs) before = past fs (f ∷ before)

pub past_join : (fs gs before : List JunosForm) → past (fs ++ gs) before ≡ past gs (past fs before)
unfolding past
past_join [] gs before = refl
past_join (f ∷ fs) gs before = past_join fs gs (f ∷ before)

pub clean_join : (facts : Facts) (before fs gs : List JunosForm) → Clean facts before fs → Clean facts (past fs before) gs → Clean facts before (fs ++ gs)
unfolding Clean past
clean_join facts before [] gs h k = k
clean_join facts before (f ∷ fs) gs h k = (h.0, clean_join facts (f ∷ before) fs gs h.1 k)

-- ---- no first fault

and_none : (a b : Bool) → b ≡ false → (a && b) ≡ false
and_none true b e = e
and_none false b e = refl

none_found : (holds : Cause → Bool) (cs : List Cause) → ((c : Cause) → holds c ≡ false) → find holds cs ≡ None
none_found holds [] h = refl
none_found holds (c ∷ cs) h = ap (λ (b : Bool). cond b (Some c) (find holds cs)) (h c) ∙ none_found holds cs h

no_cause : (holds : Cause → Bool) → ((c : Cause) → holds c ≡ false) → first_cause holds ≡ None
unfolding first_cause
no_cause holds h = none_found holds causes h

module _ (names : List (List ℕ)) (all : List JunosItem) where
  none_from : (before items : List JunosItem) → Clean (facts_of names all) (forms_of before) (forms_of items) → first_fault_from span_of (rules_of names all) before items ≡ None
  unfolding Clean first_fault_from
  none_from before [] h = refl
  none_from before (i ∷ is) h =
      ap (λ (o : Option Cause). elim o [ Some cause ↦ Some (span_of i, cause) | None ↦ first_fault_from span_of (rules_of names all) (i ∷ before) is ])
      (no_cause (rules_of names all before i) (λ c. and_none (is_reached (facts_of names all) (before_of (forms_of before)) i.form) (has_cause (facts_of names all) (before_of (forms_of before)) i.form c) (h.0 c)))
      ∙ none_from (i ∷ before) is h.1

  pub clean_is_sound : Clean (facts_of names all) [] (forms_of all) → first_fault names all ≡ None
  unfolding first_fault
  clean_is_sound h = none_from [] all h

-- ---- what stands before a place in a policy

-- terms of this number and of higher ones may follow
abbrev FreeFrom : ℕ → List JunosForm → Type 0
FreeFrom next before = (m : ℕ) → next ≤ m → m < 2 ^ 64 → has_term (term_name m) before ≡ false

-- between the terms of a policy, of which none goes on, where the next one may have this number
pub record Between (policy : List ℕ) (next : ℕ) (before : List JunosForm) : Type 0 where
  pub definition : definition_before before ≡ Some (PolicySort, policy)
  pub goes_on : named_goes_on before ≡ false
  pub free : FreeFrom next before

-- in a term of it, behind these forms of the term
pub record Within (policy : List ℕ) (next : ℕ) (here before : List JunosForm) : Type 0 where
  pub definition : definition_before before ≡ Some (PolicySort, policy)
  pub term : term_before false before ≡ here
  pub goes_on : goes_on_before before ≡ false
  pub free : FreeFrom next before

pub begins_term : (policy : List ℕ) (n : ℕ) (before : List JunosForm) → n < 2 ^ 64 → Between policy n before → Within policy (n + 1) [] (TermHeader (term_name n) ∷ before)
unfolding definition_before term_before goes_on_before has_term
begins_term policy n before small h = record {
  definition = h.definition;
  term = refl;
  goes_on = h.goes_on;
  free = λ m low high.
      ap (λ (b : Bool). b || has_term (term_name m) before) (terms_apart m n high (omega (arith, small)) (λ e. omega (arith, e, low)))
      ∙ h.free m (omega (arith, low)) high;
}

pub ends_term : (policy : List ℕ) (next : ℕ) (here before : List JunosForm) → Within policy next here before → list_any (acts ends) here ≡ true → Between policy next before
ends_term policy next here before h ended = record {
  definition = h.definition;
  goes_on =
      ap (λ (b : Bool). b || goes_on_before before)
      (ap goes_on h.term ∙ ap (λ (b : Bool). list_any (acts prepends) here && not b) ended ∙ and_none (list_any (acts prepends) here) false refl)
      ∙ h.goes_on;
  free = h.free;
}

module _ (policy : List ℕ) (next : ℕ) (here before : List JunosForm) (h : Within policy next here before) where
  pub past_condition : (c : Condition) → Within policy next (condition_form false c ∷ here) (condition_form false c ∷ before)
  unfolding definition_before term_before goes_on_before has_term
  past_condition c = record {
    definition = h.definition;
    term = ap (λ (fs : List JunosForm). condition_form false c ∷ fs) h.term;
    goes_on = h.goes_on;
    free = λ m low high. h.free m low high;
  }

  pub past_action : (a : Action) → Within policy next (action_form false a ∷ here) (action_form false a ∷ before)
  unfolding definition_before term_before goes_on_before has_term
  past_action a = record {
    definition = h.definition;
    term = ap (λ (fs : List JunosForm). action_form false a ∷ fs) h.term;
    goes_on = h.goes_on;
    free = λ m low high. h.free m low high;
  }

-- ---- single forms

-- what holds of a tree and a chain: no policy stands behind one that puts numbers before the path, and calls end
pub record Calm (facts : Facts) : Type 0 where
  pub behind : (p : List ℕ) → facts.behind_prepend p ≡ false
  pub back : (p q : List ℕ) → facts.turns_back p q ≡ false
  pub deep : (p : List ℕ) → facts.too_deep p ≡ false

pub passes_none : {A : Type 0} (o : Option A) → passes (λ x. false) o ≡ false
passes_none None = refl
passes_none (Some x) = refl

none_back : (facts : Facts) (p : List ℕ) (qs : List (List ℕ)) → ((q : List ℕ) → facts.turns_back p q ≡ false) → list_any (λ q. facts.turns_back p q) qs ≡ false
none_back facts p [] h = refl
none_back facts p (q ∷ qs) h = ap (λ (b : Bool). b || list_any (λ r. facts.turns_back p r) qs) (h q) ∙ none_back facts p qs h

-- the first line of a term
pub sound_term : (facts : Facts) (before : List JunosForm) (name : List ℕ) → has_term name before ≡ false → Sound facts before (TermHeader name)
sound_term facts before name h DefinedTwice = h
sound_term facts before name h Cycle = passes_none (policy_name (definition_before before))
sound_term facts before name h _ = refl

-- the name of a condition or an action of a term is defined
abbrev pub AreDefined : Facts → StatementSort × List (List ℕ) → Type 0
AreDefined facts (sort, names) = list_any (λ q. not (facts.defined sort q)) names ≡ false

-- a condition, of what stands before it in its term
pub record IsFresh (here : List JunosForm) (c : Condition) : Type 0 where
  pub kinds : passes (λ k. nat_lt k 4 && list_any (λ f. is_kind k (kind_of f)) here) (kind_of_condition c) ≡ false
  pub ways :
      passes (λ k. (nat_le 4 k && not (list_any (λ f. is_kind k (kind_of f)) here))
      && exactly_one (list_any (λ f. is_kind 4 (kind_of f)) here) (list_any (λ f. is_kind 5 (kind_of f)) here) (list_any (λ f. is_kind 6 (kind_of f)) here) (list_any (λ f. is_kind 7 (kind_of f)) here)) (kind_of_condition c) ≡ false
  pub filters : passes (λ p. list_any (λ f. is_prefix p (filter_of f)) here) (filter_of_condition c) ≡ false

module _ (facts : Facts) (calm : Calm facts) (policy : List ℕ) (next : ℕ) (here before : List JunosForm) (h : Within policy next here before) where
  -- what the rules look at in a condition, by what stands before it
  pub sound_condition : (c : Condition) → AreDefined facts (named_by_condition c) → IsFresh here c → Sound facts before (condition_form false c)
  sound_condition c known fresh Undefined = known
  sound_condition c known fresh SameKindTwice = ap (λ (fs : List JunosForm). passes (λ k. nat_lt k 4 && list_any (λ f. is_kind k (kind_of f)) fs) (kind_of_condition c)) h.term ∙ fresh.kinds
  sound_condition c known fresh MixedPrefixTests =
      ap (λ (fs : List JunosForm). passes (λ k. (nat_le 4 k && not (list_any (λ f. is_kind k (kind_of f)) fs))
      && exactly_one (list_any (λ f. is_kind 4 (kind_of f)) fs) (list_any (λ f. is_kind 5 (kind_of f)) fs) (list_any (λ f. is_kind 6 (kind_of f)) fs) (list_any (λ f. is_kind 7 (kind_of f)) fs)) (kind_of_condition c)) h.term
      ∙ fresh.ways
  sound_condition c known fresh SamePrefixTwice = ap (λ (fs : List JunosForm). passes (λ p. list_any (λ f. is_prefix p (filter_of f)) fs) (filter_of_condition c)) h.term ∙ fresh.filters
  sound_condition c known fresh PathTestAfterPrepend =
      and_none (is_path_condition c || list_any (λ q. facts.tests_path q) (called_by_condition c)) _
      (ap (λ (o : Option Definition). passes (λ p. facts.behind_prepend p || facts.in_chain p && goes_on_before before) (policy_name o)) h.definition
      ∙ ap (λ (b : Bool). b || facts.in_chain policy && goes_on_before before) (calm.behind policy)
      ∙ ap (λ (b : Bool). facts.in_chain policy && b) h.goes_on
      ∙ and_none (facts.in_chain policy) false refl)
  sound_condition c known fresh Cycle =
      ap (λ (o : Option Definition). passes (λ p. list_any (λ q. facts.turns_back p q) (called_by_condition c)) (policy_name o)) h.definition
      ∙ none_back facts policy (called_by_condition c) (calm.back policy)
  sound_condition c known fresh TooDeep =
      ap (λ (o : Option Definition). is_calling_condition c && passes (λ p. facts.too_deep p) (policy_name o)) h.definition
      ∙ and_none (is_calling_condition c) (facts.too_deep policy) (calm.deep policy)
  sound_condition c known fresh _ = refl

  -- an action that changes the route, or ends the run
  pub sound_action : (a : Action) → AreDefined facts (named_by_action a) → passes (λ k. nat_lt k 4 && list_any (λ f. is_kind k (kind_of f)) here) (kind_of_action a) ≡ false
      → passes (λ k. nat_le 4 k) (kind_of_action a) ≡ false
      → passes (λ q. facts.not_plain q) (set_or_added a) ≡ false
      → (changes_route a && facts.called policy) ≡ false
      → leaves a ≡ false
      → Sound facts before (action_form false a)
  sound_action a known kinds ways plain uncalled stays Undefined = known
  sound_action a known kinds ways plain uncalled stays SameKindTwice = ap (λ (fs : List JunosForm). passes (λ k. nat_lt k 4 && list_any (λ f. is_kind k (kind_of f)) fs) (kind_of_action a)) h.term ∙ kinds
  sound_action a known kinds ways plain uncalled stays MixedPrefixTests = none_mixed (kind_of_action a) ways
    where
      none_mixed : (o : Option ℕ) → passes (λ k. nat_le 4 k) o ≡ false
          → passes (λ k. (nat_le 4 k && not (list_any (λ f. is_kind k (kind_of f)) (term_before false before)))
          && exactly_one (list_any (λ f. is_kind 4 (kind_of f)) (term_before false before)) (list_any (λ f. is_kind 5 (kind_of f)) (term_before false before)) (list_any (λ f. is_kind 6 (kind_of f)) (term_before false before)) (list_any (λ f. is_kind 7 (kind_of f)) (term_before false before))) o ≡ false
      none_mixed None e = refl
      none_mixed (Some k) e = rw e refl
  sound_action a known kinds ways plain uncalled stays NotPlain = plain
  sound_action a known kinds ways plain uncalled stays SubroutineChanges =
      ap (λ (o : Option Definition). changes_route a && passes (λ p. facts.called p) (policy_name o)) h.definition ∙ uncalled
  sound_action a known kinds ways plain uncalled stays NextPolicyInSubroutine = ap (λ (b : Bool). b && passes (λ p. facts.called p) (policy_name (definition_before before))) stays
  sound_action a known kinds ways plain uncalled stays Cycle = passes_none (policy_name (definition_before before))
  sound_action a known kinds ways plain uncalled stays _ = refl
