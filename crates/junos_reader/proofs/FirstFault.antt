-- The walk for the first fault: what is kept of the items before gives the fault of the next one.
use Rattle.std.proofs.Common.{◌≡◌, refl, sym, ap, ◌∙◌, subst, ℕ, ◌-◌, ◌<◌, ◌≤◌, List, [], ◌∷◌, length, get_or, take, drop, Bool, Option, Some, None, arith}
use Rattle.std.proofs.lemmas.List.{take_all}
use Rattle.policy_text.specs.Causes.{first_cause, first_fault_from}
use Rattle.text_words.specs.declared.statement.Span.{Span}
use Rattle.policy_text.specs.declared.fault.Cause.{Cause}
use Rattle.junos_tree.specs.declared.item.JunosForm.{JunosForm}
use Rattle.junos_tree.specs.declared.item.JunosItem.{JunosItem}
use Rattle.junos_reader.specs.Facts.{Facts, facts_of, forms_of}
use Rattle.junos_reader.specs.Profile.{is_fault, rules_of, span_of, first_fault}
use Rattle.junos_reader.specs.Known.{told, IsBehind}
use Rattle.junos_reader.specs.Walk.{IsWalking}
use Rattle.junos_reader.specs.declared.state.State.{State}

pub nothing_left : (o : Option Cause) → ((cause : Cause) → o ≡ Some cause → ⊥) → o ≡ None
nothing_left None h = refl
nothing_left (Some cause) h = absurd (h cause refl)

module _ (names : List (List ℕ)) (all rest : List JunosItem) (state : State) (walking : IsWalking names all rest state) where
  -- the first cause of an item here
  abbrev pub cause_here : JunosItem → Option Cause
  cause_here i = first_cause (rules_of names all walking.0 i)

  -- the first fault of these items, with these before them
  abbrev pub fault_from : List JunosItem → List JunosItem → Option (Span × Cause)
  fault_from before is = first_fault_from span_of (rules_of names all) before is

  -- where no item is left there is no fault
  pub ends : length rest < 1 → None ≡ first_fault names all
  unfolding first_fault first_fault_from
  ends short = none rest short walking.2
    where
      none : (is : List JunosItem) → length is < 1 → fault_from walking.0 is ≡ fault_from [] all → None ≡ fault_from [] all
      none [] short e = e
      none (i ∷ is) short e = absurd (omega arith)

  module _ (facts : Facts) (known : facts ≡ facts_of names all) (item : JunosItem) (long : 1 ≤ length rest) (is : item ≡ get_or rest 0 item) where
    -- the first cause of the item by what is kept
    abbrev pub kept_cause : Option Cause
    kept_cause = first_cause (is_fault facts (told state) item.form)

    -- it is that of the profile
    cause_is : kept_cause ≡ cause_here item
    cause_is = λ j. first_cause (is_fault (known j) (walking.1.tells j) item.form)

    -- an item with a fault is the first one
    pub stops : (cause : Cause) → kept_cause ≡ Some cause → Some (item.span, cause) ≡ first_fault names all
    unfolding first_fault first_fault_from
    stops cause fault = stop rest long is walking.2
      where
        stop : (is : List JunosItem) → 1 ≤ length is → item ≡ get_or is 0 item → fault_from walking.0 is ≡ fault_from [] all → Some (item.span, cause) ≡ fault_from [] all
        stop [] long same e = absurd (omega arith)
        stop (i ∷ is) long same e =
            let there : cause_here i ≡ Some cause = subst (λ (j : JunosItem). cause_here j ≡ Some cause) same (sym cause_is ∙ fault) in
            let found : fault_from walking.0 (i ∷ is) ≡ Some (i.span, cause) = rw (first_fault_from, there) refl in
            ap (λ (j : JunosItem). Some (j.span, cause)) same ∙ sym found ∙ e

    -- an item without a fault is passed
    pub passes : (m : ℕ) (next : State) → m ≡ length rest - 1 → kept_cause ≡ None
        → ((before : List JunosForm) → IsBehind before state → IsBehind (item.form ∷ before) next) → IsWalking names all (take m (drop 1 rest)) next
    unfolding first_fault_from
    passes m next m-is none behind = pass rest long is m-is walking.2
      where
        pass : (is : List JunosItem) → 1 ≤ length is → item ≡ get_or is 0 item → m ≡ length is - 1 → fault_from walking.0 is ≡ fault_from [] all → IsWalking names all (take m (drop 1 is)) next
        pass [] long same m-is e = absurd (omega arith)
        pass (i ∷ is) long same m-is e =
            let rest : take m is ≡ is = take_all m is (omega (arith, m-is)) in
            let here : cause_here i ≡ None = subst (λ (j : JunosItem). cause_here j ≡ None) same (sym cause_is ∙ none) in
            let on : fault_from walking.0 (i ∷ is) ≡ fault_from (i ∷ walking.0) is = rw (first_fault_from, here) refl in
            rw rest (item ∷ walking.0, behind (forms_of walking.0) walking.1, subst (λ (j : JunosItem). fault_from (j ∷ walking.0) is ≡ fault_from [] all) (sym same) (sym on ∙ e))
