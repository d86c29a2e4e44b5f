-- Where the first fault is.
use Rattle.std.proofs.Common.{◌≡◌, refl, sym, ◌∙◌, ℕ, ◌+◌, Bool, true, false, ◌&&◌, List, [], ◌∷◌, Option, Some, None}
use Rattle.std.specs.List.{list_all}
use Rattle.text_words.specs.declared.statement.Span.{Span}
use Rattle.policy_text.specs.Causes.{Rise}
use Rattle.policy_text.specs.declared.fault.Cause.{Cause}
use Rattle.policy_text.proofs.FirstFaults as faults
use Rattle.junos_tree.specs.declared.item.JunosItem.{JunosItem}
use Rattle.junos_reader.specs.Profile.{rules_of, span_of, first_fault, IsSound, IsFirst, is_defined}
use Rattle.junos_reader.specs.Faults.{undefined_from}

module _ (names : List (List ℕ)) (all : List JunosItem) where
  pub none_is : first_fault names all ≡ None → IsSound names all
  unfolding first_fault
  none_is e = faults.has_none JunosItem span_of (rules_of names all) all e

  pub sound_is : IsSound names all → first_fault names all ≡ None
  unfolding first_fault
  sound_is sound = faults.none_from JunosItem span_of (rules_of names all) all sound [] all refl

  pub first_is : (span : Span) (cause : Cause) → Rise span_of all → first_fault names all ≡ Some (span, cause) → IsFirst names all span cause
  unfolding first_fault
  first_is span cause rise e = faults.is_first JunosItem span_of (rules_of names all) all span cause rise e

  pub only_is : (span : Span) (cause : Cause) → Rise span_of all → IsFirst names all span cause → first_fault names all ≡ Some (span, cause)
  unfolding first_fault
  only_is span cause rise first = faults.only_first JunosItem span_of (rules_of names all) all span cause rise first

-- where no name is the first undefined one, all are defined
pub all_defined : (all : List JunosItem) (place : ℕ) (names : List (List ℕ)) → undefined_from all place names ≡ None → list_all (is_defined all) names ≡ true
unfolding undefined_from
all_defined all place [] e = refl
all_defined all place (n ∷ ns) e = here (is_defined all n) refl e (all_defined all (place + 1) ns)
  where
    here : (b : Bool) → is_defined all n ≡ b → ◌≡◌ {A = Option ℕ} (elim b [ true ↦ undefined_from all (place + 1) ns | false ↦ Some place ]) None → (undefined_from all (place + 1) ns ≡ None → list_all (is_defined all) ns ≡ true)
        → (is_defined all n && list_all (is_defined all) ns) ≡ true
    here true is e rest = rw is (rest e)
    here false is e rest = absurd cc
