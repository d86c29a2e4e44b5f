-- Where the first fault is, and that a caller who takes fewer forms finds more faults.
use Rattle.std.proofs.Common.{◌≡◌, refl, ℕ, ◌<◌, Bool, true, false, not, ◌&&◌, ◌||◌, List, [], ◌∷◌, Some, None, arith}
use Rattle.std.specs.List.{AllByRecursion}
use Rattle.text_words.specs.declared.statement.Span.{Span}
use Rattle.policy_text.specs.Causes.{Rise}
use Rattle.policy_text.specs.declared.fault.Cause.{Cause}
use Rattle.policy_text.specs.declared.fault.Cause.TheVariants.{UnknownForm}
use Rattle.policy_text.proofs.FirstFaults as faults
use Rattle.ios_tree.specs.Spans.{RiseFrom, SpansRise}
use Rattle.ios_tree.specs.declared.item.IosForm.{IosForm}
use Rattle.ios_tree.specs.declared.item.IosItem.{IosItem}
use Rattle.ios_reader.specs.Items.{line_in, has_no_form}
use Rattle.ios_reader.specs.Facts.{Facts, facts_of, Before, before_of}
use Rattle.ios_reader.specs.Profile.{passes, all_forms, is_reached, has_line_cause, is_fault, rules_of, span_of, first_fault_within, IsSoundWithin, IsFirstFaultWithin, is_defined, InProfile}

-- ---- the spans rise

all_above : (low place end : ℕ) (is : List IosItem) → low < place → RiseFrom place end is → AllByRecursion (λ j. low < j.span.start) is
all_above low place end [] below rise = tt
all_above low place end (i ∷ is) below rise = (omega (arith, rise.0), all_above low i.span.end end is (omega (arith, rise.0, rise.1)) rise.2)

rises : (place end : ℕ) (is : List IosItem) → RiseFrom place end is → Rise span_of is
rises place end [] rise = tt
rises place end (i ∷ is) rise = (all_above i.span.start i.span.end end is rise.1 rise.2, rises i.span.end end is rise.2)

-- ---- the first fault

module _ (takes : IosForm → Bool) (name : List ℕ) (all : List IosItem) where
  pub none_is : first_fault_within takes name all ≡ None → IsSoundWithin takes name all
  unfolding first_fault_within
  none_is e = faults.has_none IosItem span_of (rules_of takes name all) all e

  pub sound_is : IsSoundWithin takes name all → first_fault_within takes name all ≡ None
  unfolding first_fault_within
  sound_is sound = faults.none_from IosItem span_of (rules_of takes name all) all sound [] all refl

  pub first_is : (end : ℕ) (span : Span) (cause : Cause) → SpansRise end all → first_fault_within takes name all ≡ Some (span, cause) → IsFirstFaultWithin takes name all span cause
  unfolding first_fault_within
  first_is end span cause rise e = faults.is_first IosItem span_of (rules_of takes name all) all span cause (rises 0 end all rise) e

  pub only_is : (end : ℕ) (span : Span) (cause : Cause) → SpansRise end all → IsFirstFaultWithin takes name all span cause → first_fault_within takes name all ≡ Some (span, cause)
  unfolding first_fault_within
  only_is end span cause rise first = faults.only_first IosItem span_of (rules_of takes name all) all span cause (rises 0 end all rise) first

-- ---- a caller who takes all forms

fewer_unknown : (reached taken none more : Bool) → (reached && ((not taken || none) || more)) ≡ false → (reached && (none || more)) ≡ false
fewer_unknown false taken none more e = refl
fewer_unknown true true none more e = e
fewer_unknown true false none more e = absurd cc

fewer : (takes : IosForm → Bool) (facts : Facts) (before : Before) (form : IosForm) (cause : Cause) → is_fault takes facts before form cause ≡ false
    → is_fault all_forms facts before form cause ≡ false
fewer takes facts before form UnknownForm e =
    fewer_unknown (is_reached facts before form) (takes form) (has_no_form form) (passes (λ line. has_line_cause facts before line UnknownForm) (line_in form)) e
fewer takes facts before form _ e = e

-- a policy that is defined and has no fault among the forms that are taken is in profile
pub is_in_profile : (takes : IosForm → Bool) (name : List ℕ) (all : List IosItem) → is_defined name all ≡ true → first_fault_within takes name all ≡ None → InProfile name all
is_in_profile takes name all defined sound = record {
  defined = defined;
  sound = sound_is all_forms name all (λ p cause. fewer takes (facts_of name all) (before_of name p.before) p.item.form cause (none_is takes name all sound p cause));
}
